-- What is claimed of widening (document 01, "Steps" and "What a caller gets back"): a number within −b..b is kept, modulo 2^ρ·q.
use Rattle.std.specs.Prelude.{◌≡◌, [], ℕ, ◌*◌, ◌^◌, ◌≤◌, nat_abs}
use Rattle.numbers.specs.Modulo.{q}
use Rattle.numbers.specs.Centred.{centred}
use Rattle.params.specs.Sets.{Known, kind_of}
use Rattle.sizes.specs.Widening.{widen_plan}
use Rattle.demands.specs.Gadgets.{widen_gadget}
use Rattle.demands.specs.Claim.{Claim}

abbrev pub widen_claim : (set kind : ℕ) → Claim
widen_claim set kind =
    record {
      gadget = widen_gadget set kind;
      InRange = Known set × ((1 ≤ kind) × (kind ≤ 2));
      draws = λ n. widen_plan (kind_of set kind) n;
      fields = 0;
      opens = λ x. [];
      Plain = λ x y. nat_abs (centred q x) ≤ (kind_of set kind).b → centred (2 ^ (kind_of set kind).rho * q) y ≡ centred q x;
    }
