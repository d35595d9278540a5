-- What is claimed of the verdict (document 01, "Steps" and "What a caller gets back"): what it opens, and that within the reach it accepts exactly the
-- numbers whose size is below the bound. Of a number beyond the reach it is only said that the answer is that of the steps.
use Rattle.std.specs.Prelude.{◌≡◌, List, [], ◌∷◌, ℕ, ◌≤◌, ◌<◌, length, ℤ, nat_abs}
use Rattle.numbers.specs.Tests.{pick}
use Rattle.numbers.specs.Modulo.{q}
use Rattle.numbers.specs.Lists.{Words}
use Rattle.numbers.specs.Centred.{centred}
use Rattle.params.specs.declared.Bounds.{Bounds}
use Rattle.params.specs.Sets.{Known, kind_of}
use Rattle.tape.specs.declared.Cursor.{Cursor}
use Rattle.tape.specs.Tape.{ran, start}
use Rattle.draws.specs.Draws.{run}
use Rattle.draws.specs.Plan.{draw_all}
use Rattle.shares.specs.Sharing.{arithmetic, value}
use Rattle.gate.specs.Told.{Outcome}
use Rattle.gate.specs.Judge.{judge_call}
use Rattle.sizes.specs.Verdict.{verdict_of, verdict_plan}
use Rattle.sizes.specs.Plain.{accepted, opened_of}
use Rattle.demands.specs.Gadgets.{verdict_gadget}
use Rattle.demands.specs.Call.{CallClaim, Counted}

-- the number that shares mean: a residue above (q−1)/2 means itself less q
abbrev pub meant : List ℕ → ℤ
meant shares = centred q (value (arithmetic q) shares)

-- it lies in −b .. b
abbrev pub Within : Bounds → List ℕ → Type 0
Within bounds shares = nat_abs (meant shares) ≤ bounds.b

-- the outcome of a call with these shares, on a tape of which the words up to a place were read
pub record Judgement (bounds : Bounds) (shares tape : List ℕ) (place : Cursor) (o : Outcome) : Type 0 where
  -- a number below q is opened; zero rejects, all else accepts; and there are no shares
  pub opens : ℕ
  pub below : opens < q
  pub tells : o.others ≡ verdict_of opens ∷ opens ∷ []
  pub no_shares : o.shares ≡ []
  -- within the reach it is the product of the two sides and of the scalars, which are among the draws of the call,
  pub draws : List ℕ
  pub drawn : run (draw_all (verdict_plan bounds (length shares))) tape start ≡ ran draws place
  pub product : Within bounds shares → opens ≡ opened_of bounds (length shares) (meant shares) draws
  -- and the verdict is 1 exactly where the size is below the bound
  pub plain : Within bounds shares → verdict_of opens ≡ pick (accepted bounds (meant shares)) 1 0

abbrev pub verdict_claim : (set kind : ℕ) → (shares : List ℕ) → CallClaim
verdict_claim set kind shares =
    record {
      call = judge_call (verdict_gadget set kind) shares;
      fields = 2;
      out = [];
      short = [];
      Count = Counted (length shares);
      Room = Unit {0};
      InRange = Known set × ((1 ≤ kind) × (kind ≤ 2));
      Below = Words (length shares) q shares;
      plan = verdict_plan (kind_of set kind) (length shares);
      Right = Judgement (kind_of set kind) shares;
    }
