-- What is claimed of a call, all but its tape given: demands 1 and 2 are stated over this, once for every public gadget.
use Rattle.std.specs.Prelude.{List, ℕ, ◌≤◌}
use Rattle.tape.specs.declared.Cursor.{Cursor}
use Rattle.gate.specs.Told.{Outcome, Call}

pub record CallClaim : Type 1 where
  pub call : Call
  -- how many fields it has beside the number and the words used
  pub fields : ℕ
  -- the output slice that it is lent, and what a short tape leaves in it
  pub out : List ℕ
  pub short : List ℕ
  -- what the checks 1 to 4 ask: of the share count, of the output slice's length, of the parameters and of the input shares
  pub Count : Type 0
  pub Room : Type 0
  pub InRange : Type 0
  pub Below : Type 0
  -- what it draws below, in turn
  pub plan : List ℕ
  -- what its outcome is to be, on a tape of which the words up to a place were read
  pub Right : (tape : List ℕ) → Cursor → Outcome → Type 0

-- two shares to eight
abbrev pub Counted : ℕ → Type 0
Counted n = (2 ≤ n) × (n ≤ 8)

-- a call that is refused by none of the numbers 1 to 4
pub record Valid (c : CallClaim) : Type 0 where
  pub count : c.Count
  pub room : c.Room
  pub range : c.InRange
  pub below : c.Below
