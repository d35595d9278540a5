-- What the checks answer of a gadget's parameters.
use Rattle.std.proofs.Common.{◌≡◌, List, Option, Some, IfSome, ℕ, ◌%◌, ◌^◌, ◌≤◌, ◌<◌, is_some, refl, ◌∙◌, arith, ne_eqb}
use native.Mathlib.Decide.{ℕ_discrete, dec_lt}
use Rattle.numbers.specs.Tests.{both}
use Rattle.params.specs.Sets.{kind_of_number, bounds_of, known}
use Rattle.params.proofs.SetLaws.{bounds_known}
use Rattle.checks.specs.declared.Refusal.{Refusal}
use Rattle.checks.specs.declared.Refusal.TheVariants.{ShareCount, Room, Parameters, Share, TapeEnded}
use Rattle.checks.specs.Checks.{inside, first_failing, checks, Checked}
use Rattle.checks.specs.Admission.{refusal_number, Handed}
use Rattle.checks.proofs.CheckLaws.{inside_low, inside_high, inside_out, all_passed, checked, checked_width}

-- a refusal has a number of its own, which is not 0
pub refusal_counts : (r : Refusal) → ¬ (refusal_number r ≡ 0)
refusal_counts ShareCount = λ e. omega arith
refusal_counts Room = λ e. omega arith
refusal_counts Parameters = λ e. omega arith
refusal_counts Share = λ e. omega arith
refusal_counts TapeEnded = λ e. omega arith

-- a kind is a number from 1 to 2
kind_inside : (kind : ℕ) → is_some (kind_of_number kind) ≡ inside 1 2 kind
unfolding inside
kind_inside kind = go (ℕ_discrete kind 1) (ℕ_discrete kind 2) (dec_lt 2 kind)
  where
    go : Dec (kind ≡ 1) → Dec (kind ≡ 2) → Dec (2 < kind) → is_some (kind_of_number kind) ≡ inside 1 2 kind
    go (yes a) x y = rw a
    go (no n) (yes b) y = rw b
    go (no n) (no m) (yes l) = rw (ne_eqb kind 1 n, ne_eqb kind 2 m, inside_high 1 2 kind (omega arith) l)
    go (no n) (no m) (no l) = rw (ne_eqb kind 1 n, ne_eqb kind 2 m, inside_low 1 2 kind (omega arith))

-- the bounds of a kind of a set are there where both numbers are in range
pub bounds_range : (set kind : ℕ) → is_some (bounds_of set kind) ≡ both (known set) (inside 1 2 kind)
bounds_range set kind = bounds_known set kind ∙ rw (kind_inside kind)

-- what is known where all checks on shares let a parameter pass: the number t that was found is x, from low to high
pub record Ready (shares : List ℕ) (room low high x M t : ℕ) : Type 0 where
  pub passes : first_failing (checks shares room (inside low high x) M) ≡ 0
  pub checked : Checked shares room M
  pub same : t ≡ x
  pub least : low ≤ x
  pub most : x ≤ high

of_passed : {shares : List ℕ} {room low high x M t : ℕ} (r : Option ℕ) → IfSome r (λ y. y ≡ x) → r ≡ Some t → first_failing (checks shares room (inside low high x) M) ≡ 0 →
    Ready shares room low high x M t
of_passed {low = low} {high = high} {x = x} r same is e =
    let p = all_passed _ _ _ _ e in
    let (least, most) = inside_out low high x p.range in
    record { passes = e; checked = p.ready; same = rw is at same; least = least; most = most }

pub ready : {shares : List ℕ} {room low high x M t : ℕ} (r : Option ℕ) → is_some r ≡ inside low high x → IfSome r (λ y. y ≡ x) → Handed (checks shares room (is_some r) M) r t →
    Ready shares room low high x M t
ready r found same h = of_passed r same h.is (checked _ _ h.passes found (λ e. refl))

-- the same of a width, and of 2 to it
pub ready_width : {shares : List ℕ} {room high x M t : ℕ} (r : Option ℕ) → high ≤ 31 → is_some r ≡ inside 1 high x → IfSome r (λ y. y ≡ x) → M ≡ 2 ^ (x % 32) →
    Handed (checks shares room (is_some r) M) r t → Ready shares room 1 high x (2 ^ x) t
ready_width {high = high} {x = x} r h found same e a = of_passed r same a.is (checked_width _ _ high x h a.passes found e)
