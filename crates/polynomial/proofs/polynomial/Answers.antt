use Rattle.std.proofs.Common.{sym, ◌∙◌, ◌+◌, ◌*◌, ◌≤◌, ◌<◌, length, arith}
use Rattle.masks.proofs.RowLaws.{lent_length, filling_start, filling_all, filling_within, filling_ended, filling_more}
use Rattle.polynomial.proofs.polynomial.Goals as goal
use Rattle.polynomial.proofs.polynomial.Goals.{In-loop-c}

few : (c : In-loop-c) → c.loop-c.c < 256
few c = omega (arith, c.loop-c-test.true)

-- the row lies within the slice
within : (c : In-loop-c) →
    let n = c.args.n in
    c.loop-c.c * n + n ≤ length c.loop-c.out
within c = filling_within c.loop-c.invariant (few c)

pub loop-c-init : goal.loop-c-init
loop-c-init c = rw c.start-cursor.ensures (filling_start _ _ _ _ c.requires.2)

pub overflow_mul-place : goal.overflow_mul-place
overflow_mul-place c = omega (arith, within c)

pub overflow_add-place : goal.overflow_add-place
overflow_add-place c = omega (arith, within c)

pub offset_bounds-out-place : goal.offset_bounds-out-place
offset_bounds-out-place c = omega (arith, within c, c.well_formed)

pub returns-in_err-cursor : goal.returns-in_err-cursor
returns-in_err-cursor c = rw c.from_residual.ensures (sym (filling_ended c.loop-c.invariant (few (goal.at.returns-in_err-cursor c).In-loop-c) (sym c.in_err-cursor.ensures)))

pub loop-c-preserved : goal.loop-c-preserved
loop-c-preserved c =
    filling_more c.loop-c.invariant (few (goal.at.loop-c-preserved c).In-loop-c) (sym c.in_ok-cursor.ensures) (c.out-1.given.0 ∙ lent_length _ _ _ (within (goal.at.loop-c-preserved c).In-loop-c))

pub returns : goal.returns
returns c = sym (filling_all c.loop-c.invariant c.loop-c-test.false)
