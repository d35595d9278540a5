-- Demand 1: bad share counts, lengths, parameters, shares and short tapes are refused by number, in a fixed order, with the output slice
-- unchanged; only the polynomial sampler, on a short tape, zeroes its slice. (That every call ends is the checker's.)
use Rattle.std.specs.Prelude.{◌≡◌, List, ℕ}
use Rattle.tape.specs.Tape.{ended, start}
use Rattle.draws.specs.Draws.{run}
use Rattle.draws.specs.Plan.{draw_all}
use Rattle.gate.specs.Told.{refusal, told}
use Rattle.demands.specs.Call.{CallClaim, Valid}

-- the call is refused with this number, 0 in every other field, and this in the output slice
abbrev pub Refused : CallClaim → (tape : List ℕ) → ℕ → List ℕ → Type 0
Refused c tape number left = told c.call tape ≡ refusal c.fields number left

pub record Refusals (c : CallClaim) (tape : List ℕ) : Type 0 where
  pub bad_count : ¬ c.Count → Refused c tape 1 c.out
  pub bad_length : c.Count → ¬ c.Room → Refused c tape 2 c.out
  pub bad_parameter : c.Count → c.Room → ¬ c.InRange → Refused c tape 3 c.out
  pub bad_share : c.Count → c.Room → c.InRange → ¬ c.Below → Refused c tape 4 c.out
  -- the tape ends before the last draw
  pub short_tape : Valid c → run (draw_all c.plan) tape start ≡ ended → Refused c tape 5 c.short
  -- every call that does not succeed is refused so: by number 5, or with the output slice unchanged
  pub or_short : (told c.call tape).number ≡ 5 → Refused c tape 5 c.short
  pub or_succeeds : ¬ ((told c.call tape).number ≡ 0) → ¬ ((told c.call tape).number ≡ 5) → Refused c tape (told c.call tape).number c.out
