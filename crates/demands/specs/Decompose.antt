-- What is claimed of Decompose (document 01, "Steps" and "What a caller gets back"): it opens FIPS 204's high part, and its shares are of the low part.
use Rattle.std.specs.Prelude.{◌≡◌, [], ◌∷◌, ℕ}
use Rattle.numbers.specs.Modulo.{q}
use Rattle.numbers.specs.Centred.{centred}
use Rattle.params.specs.Sets.{Known, params_of}
use Rattle.parts.specs.Decompose.{high_plan}
use Rattle.parts.specs.Plain.{high_of, low_of}
use Rattle.demands.specs.Gadgets.{decompose_gadget}
use Rattle.demands.specs.Claim.{Claim}

-- a low residue above (q−1)/2 means itself less q
abbrev pub decompose_claim : ℕ → Claim
decompose_claim set =
    record {
      gadget = decompose_gadget set;
      InRange = Known set;
      draws = high_plan (params_of set);
      fields = 1;
      opens = λ x. high_of (params_of set).gamma2 x ∷ [];
      Plain = λ x y. centred q y ≡ low_of (params_of set).gamma2 x;
    }
