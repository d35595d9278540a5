use Rattle.std.proofs.Common.{◌≡◌, Bool, true, false, ℕ, ◌≤◌, sym, ◌∙◌, leb, le-leb, ne_eqb, eq-eqb, refl, rules}
use native.Mathlib.Nat.{div-le_self, le_trans}
use Rattle.numbers.specs.Tests.{both}
use Rattle.checks.specs.Checks.{inside}
use Rattle.checks.proofs.CheckLaws.{inside_out}
use Rattle.demands.proofs.RangeLaws.{shift_range-word}
use Rattle.shifts.proofs.quotient.Goals as goal
use Rattle.shifts.proofs.quotient.Goals.{Start, In_ok-t}

word : (c : Start) → c.args.modulus ≤ 4294967295
word c = search rules

-- of a word only the lower end is tested
from_two : (x : ℕ) → x ≤ 4294967295 → inside 2 4294967295 x ≡ leb 2 x
unfolding inside
from_two x h = rw (le-leb x 4294967295 h) (go (leb 2 x))
  where
    go : (b : Bool) → both b true ≡ b
    go true = refl
    go false = refl

most : (c : In_ok-t) → c.in_ok-t.t ≤ 31
most c = rw c.in_ok-t.ensures.same (inside_out 1 31 _ (sym c.in_ok-t.ensures.found)).1

pub returns-in_err-t-clause-found : goal.returns-in_err-t-clause-found
returns-in_err-t-clause-found c = rw c.from_residual.ensures (rw (shift_range-word _ _ (word (goal.at.returns-in_err-t-clause-found c).Start), sym c.in_err-t.ensures.found))

pub power-requires : goal.power-requires
power-requires c = most c

pub returns-then-modulus-power-ne0-clause-found : goal.returns-then-modulus-power-ne0-clause-found
returns-then-modulus-power-ne0-clause-found c =
    rw (shift_range-word _ _ (word (goal.at.returns-then-modulus-power-ne0-clause-found c).Start), sym c.in_ok-t.ensures.found, ← c.in_ok-t.ensures.same, ← c.power.ensures, ne_eqb _ 0 c.if-modulus-power-ne0.true)

pub power-requires-2 : goal.power-requires-2
power-requires-2 c = most (goal.at.power-requires-2 c).In_ok-t

pub returns-clause-found : goal.returns-clause-found
returns-clause-found c =
    let small = word (goal.at.returns-clause-found c).Start in
    rw (shift_range-word _ _ small, sym c.in_ok-t.ensures.found, ← c.in_ok-t.ensures.same, ← c.power.ensures, eq-eqb _ 0 c.if-modulus-power-ne0.false)
    (c.inside-2.ensures.found ∙ rw (c.power-2.ensures, ← c.power.ensures) (from_two _ (le_trans (div-le_self _ _) small)))
