-- Demand 3, for gadgets that turn shares into shares: exactly one setting of the closing refresh's draws, nothing else on the tape changed,
-- makes a second input give the same other shares, opened numbers and count of words used.
use Rattle.std.specs.Prelude.{◌≡◌, Bool, List, ℕ, ◌-◌, ◌<◌, length}
use Rattle.tape.specs.Tape.{start}
use Rattle.draws.specs.Anew.{marks_after, OneAnew}
use Rattle.shares.specs.Sharing.{bound, value}
use Rattle.shares.specs.Closing.{closing_marks, SameBut}
use Rattle.gate.specs.Told.{Told}
use Rattle.gate.specs.Gadget.{tells}
use Rattle.demands.specs.Call.{Valid}
use Rattle.demands.specs.Claim.{Claim, plan, on_shares}

-- t and u, both of a call that succeeds, have the same shares but share j, the same numbers in the other fields, which are those opened, and the same count of words used
pub record SameTold (n j : ℕ) (t u : Told) : Type 0 where
  pub succeeds : t.number ≡ 0
  pub shares : SameBut n j t.out u.out
  pub others : t.others ≡ u.others
  pub used : t.used ≡ u.used

-- the closing draws of a call with n shares, among all its draws
unfoldable pub closing_draws : Claim → ℕ → List Bool
closing_draws c n = marks_after (c.draws n) (closing_marks n)

-- for a first input on a tape on which it succeeds, a second one, and any share j to leave out: exactly one setting of the closing draws
abbrev pub OneSetting : Claim → (shares tape out second slice : List ℕ) → (j : ℕ) → Type 0
OneSetting c shares tape out second slice j =
    OneAnew (closing_draws c (length shares)) (length shares - 1) (bound c.gadget.output) (plan c (length shares)) tape start (λ t.
    SameTold (length shares) j (tells c.gadget second t slice) (tells c.gadget shares tape out))

abbrev pub Settings : Claim → (shares tape out : List ℕ) → Type 0
Settings c shares tape out =
    (tells c.gadget shares tape out).number ≡ 0 → (second slice : List ℕ) → Valid (on_shares c second slice) → length second ≡ length shares →
    c.opens (value c.gadget.input second) ≡ c.opens (value c.gadget.input shares) → (j : ℕ) → j < length shares →
    OneSetting c shares tape out second slice j
