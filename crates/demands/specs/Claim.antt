-- What is claimed of a gadget that turns shares into shares, its parameters given.
use Rattle.std.specs.Prelude.{◌≡◌, List, [], ◌++◌, ℕ, length}
use Rattle.numbers.specs.Lists.{Words}
use Rattle.shares.specs.Sharing.{bound, value}
use Rattle.shares.specs.Refresh.{refresh_plan}
use Rattle.gate.specs.Told.{Outcome}
use Rattle.gate.specs.Gadget.{Gadget, call}
use Rattle.demands.specs.Call.{CallClaim, Counted}

pub record Claim : Type 1 where
  pub gadget : Gadget
  -- the parameters are in their ranges
  pub InRange : Type 0
  -- what its steps draw below, in turn, for n shares, before the closing refresh
  pub draws : ℕ → List ℕ
  -- how many numbers it opens, and which, by the value of its input
  pub fields : ℕ
  pub opens : ℕ → List ℕ
  -- what the value of its input and the value of its output are to each other: the plain function
  pub Plain : ℕ → ℕ → Type 0

-- a gadget that opens nothing and keeps the value
abbrev pub keeping : Gadget → Type 0 → (ℕ → List ℕ) → Claim
keeping g InRange draws = record { gadget = g; InRange = InRange; draws = draws; fields = 0; opens = λ x. []; Plain = λ x y. y ≡ x }

-- an outcome of n shares, below the output's modulus or 2 to its width, that recombine to what the plain function says of the shares xs,
-- with the numbers opened that it says
pub record Claimed (c : Claim) (n : ℕ) (xs : List ℕ) (o : Outcome) : Type 0 where
  pub words : Words n (bound c.gadget.output) o.shares
  pub recombined : c.Plain (value c.gadget.input xs) (value c.gadget.output o.shares)
  pub opened : o.others ≡ c.opens (value c.gadget.input xs)

-- all draws of a call with n shares, the closing refresh's included
unfoldable pub plan : Claim → ℕ → List ℕ
plan c n = c.draws n ++ refresh_plan c.gadget.output n

-- what is claimed of a call
abbrev pub on_shares : Claim → (shares out : List ℕ) → CallClaim
on_shares c shares out =
    record {
      call = call c.gadget shares out;
      fields = c.fields;
      out = out;
      short = out;
      Count = Counted (length shares);
      Room = length out ≡ length shares;
      InRange = c.InRange;
      Below = Words (length shares) (bound c.gadget.input) shares;
      plan = plan c (length shares);
      Right = λ tape p o. Claimed c (length shares) shares o;
    }
