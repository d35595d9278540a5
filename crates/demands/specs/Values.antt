-- Demand 2: on every tape that suffices, recombined answers equal the plain functions, and words used are the tape words read.
use Rattle.std.specs.Prelude.{◌≡◌, List, ℕ, ◌+◌, length}
use Rattle.tape.specs.declared.Cursor.{Cursor}
use Rattle.tape.specs.Tape.{ran, start}
use Rattle.draws.specs.Draws.{run}
use Rattle.draws.specs.Plan.{draw_all, skipped}
use Rattle.draws.specs.Anew.{Same}
use Rattle.gate.specs.Told.{Told, told}
use Rattle.demands.specs.Call.{CallClaim, Valid}

-- what t, told by a call that succeeds, says
pub record Correct (c : CallClaim) (tape : List ℕ) (t : Told) : Type 0 where
  pub valid : Valid c
  -- the output slice and the other fields are as claimed, of the tape's words up to a place
  pub place : Cursor
  pub right : c.Right tape place (record { others = t.others; shares = t.out })
  -- there are as many of these fields as a refusal has zeros
  pub fields : length t.others ≡ c.fields
  -- words used are the words up to that place: the draws and the words skipped
  pub up_to : t.used ≡ place.at
  pub used : t.used ≡ length c.plan + skipped c.plan tape start
  -- and these words alone were read: a tape that begins with them gives the same
  pub read : (other : List ℕ) → Same tape other 0 t.used → told c.call other ≡ t

pub record Values (c : CallClaim) (tape : List ℕ) : Type 0 where
  -- a call that no check refuses succeeds on every tape that has its draws
  pub succeeds : Valid c → (rs : List ℕ) (p : Cursor) → run (draw_all c.plan) tape start ≡ ran rs p → (told c.call tape).number ≡ 0
  -- and what a call tells that succeeds is correct
  pub correct : (told c.call tape).number ≡ 0 → Correct c tape (told c.call tape)
