-- What has to be shown of a call; demands 1 and 2 follow from this alone. And the checks that all gadgets make first.
use mathlib.Core.Path.{◌≡◌, refl, ap, ◌∙◌}
use Rattle.std.proofs.Common.{Option, is_some}
use Rattle.params.specs.declared.Bounds.{Bounds}
use mathlib.Core.Bool.{Bool, true, false}
use mathlib.Core.List.{List}
use Prim.Native.Nat.{ℕ, ◌^◌, ◌≤◌, ◌<◌}
use native.Mathlib.Omega.{arith}
use lib.ListN.{length}
use lib.Pow.{pow_pos, pow_mono}
use Rattle.params.specs.Laws.{KindLaws}
use Rattle.params.specs.Sets.{Known, known, kind_of, bounds_of}
use Rattle.params.proofs.SetLaws.{known_yes, known_so, kind_laws}
use Rattle.tape.specs.declared.Cursor.{Cursor}
use Rattle.tape.specs.Tape.{ran, start}
use Rattle.draws.specs.Draws.{run}
use Rattle.draws.proofs.Outcomes.{Plan}
use Rattle.checks.specs.Checks.{inside, first_failing, checks_of, checks}
use Rattle.gate.specs.Told.{Outcome, check_number}
use Rattle.checks.proofs.CheckLaws.{both_left, both_right, inside_yes, inside_out, fails_1, fails_2, fails_3, fails_later, checked}
use Rattle.checks.proofs.AdmissionLaws.{bounds_range}
use Rattle.demands.specs.Gadgets.{kind_range}
use Rattle.demands.specs.Call.{CallClaim, Counted, Valid}

pub record Answers (c : CallClaim) : Type 0 where
  -- the checks are those that are claimed, in this order
  pub bad_count : ¬ c.Count → 1 ≡ check_number c.call
  pub bad_length : c.Count → ¬ c.Room → 2 ≡ check_number c.call
  pub bad_parameter : c.Count → c.Room → ¬ c.InRange → 3 ≡ check_number c.call
  pub bad_share : c.Count → c.Room → c.InRange → ¬ c.Below → 4 ≡ check_number c.call
  pub most : check_number c.call ≤ 4
  -- and a refusal leaves what is claimed
  pub has_fields : c.call.fields ≡ c.fields
  pub out : c.call.out ≡ c.out
  pub short : c.call.short ≡ c.short
  pub passes : Valid c → check_number c.call ≡ 0
  pub valid : check_number c.call ≡ 0 → Valid c
  -- the program makes the claimed draws, and its outcome is as claimed
  pub planned : Valid c → Plan c.call.program c.plan
  pub right : Valid c → (tape : List ℕ) {o : Outcome} {p : Cursor} → run c.call.program tape start ≡ ran o p → c.Right tape p o
  pub fields : (tape : List ℕ) (p : Cursor) (o : Outcome) → c.Right tape p o → length o.others ≡ c.fields

-- a check of parameters, and what it says of them
pub record Tested (test : Bool) (InRange : Type 0) : Type 0 where
  pub in_range : test ≡ true → InRange
  pub range_in : InRange → test ≡ true

-- and what the output's words are then below
pub record Range (test : Bool) (InRange : Type 0) (M : ℕ) : Type 0 where
  pub tested : Tested test InRange
  pub positive : InRange → 0 < M
  pub word : InRange → M ≤ 2 ^ 32

-- a number from 1 to high
pub number_range : (high k M : ℕ) → 0 < M → (k ≤ high → M ≤ 2 ^ 32) → Range (inside 1 high k) ((1 ≤ k) × (k ≤ high)) M
number_range high k M h w = record { tested = record { in_range = inside_out 1 high k; range_in = λ r. inside_yes 1 high k r.0 r.1 }; positive = λ r. h; word = λ r. w r.1 }

-- a width from 1 to 31
pub width_range : (k : ℕ) → Range (inside 1 31 k) ((1 ≤ k) × (k ≤ 31)) (2 ^ k)
width_range k = number_range 31 k (2 ^ k) (pow_pos k) (λ h. pow_mono {i = k} {j = 32} (omega arith))

-- a set
pub set_tested : (set : ℕ) → Tested (known set) (Known set)
set_tested set = record { in_range = known_so set; range_in = known_yes }

-- a set and a kind
pub kind_tested : (set kind : ℕ) → Tested (kind_range set kind) (Known set × ((1 ≤ kind) × (kind ≤ 2)))
unfolding kind_range
kind_tested set kind =
    record {
      in_range = λ e. (known_so set (both_left (known set) (inside 1 2 kind) e), inside_out 1 2 kind (both_right (known set) (inside 1 2 kind) e));
      range_in = λ r. rw (known_yes r.0) (inside_yes 1 2 kind r.1.0 r.1.1);
    }

pub laws_of : {set : ℕ} (kind : ℕ) → Known set → KindLaws (kind_of set kind)
laws_of {set} kind k = kind_laws (kind_of set kind)

-- what was checked of the bounds of a kind of a set, which are there where both are in range
pub kind_checked : (shares : List ℕ) (room set kind M : ℕ) {o : Option Bounds} {k : ℕ} → o ≡ bounds_of set kind → first_failing (checks shares room (is_some o) M) ≡ k →
    first_failing (checks shares room (kind_range set kind) M) ≡ k
unfolding kind_range
kind_checked shares room set kind M f e = checked shares room e (ap is_some f ∙ bounds_range set kind) (λ t. refl)

-- a test that is not true is false
pub not_so : (b : Bool) → ¬ (b ≡ true) → b ≡ false
not_so true n = absurd (n refl)
not_so false n = refl

-- the checks that all gadgets make first
module _ {in_range : Bool} {InRange : Type 0} (s : Tested in_range InRange) (n room words : ℕ) (more : List (ℕ × Bool)) where
  abbrev number : ℕ
  number = first_failing (checks_of n room words in_range more)

  pub first_count : ¬ (Counted n) → 1 ≡ number
  first_count h = fails_1 n room words in_range more (not_so _ (λ e. h (inside_out 2 8 n e)))

  pub first_length : Counted n → ¬ (room ≡ words) → 2 ≡ number
  first_length h r = fails_2 n room words in_range more h.0 h.1 r

  pub first_parameter : Counted n → room ≡ words → ¬ InRange → 3 ≡ number
  first_parameter h r i = fails_3 n room words in_range more h.0 h.1 r (not_so _ (λ e. i (s.in_range e)))

  pub first_later : Counted n → room ≡ words → InRange → first_failing more ≡ number
  first_later h r i = fails_later n room words in_range more h.0 h.1 r (s.range_in i)
