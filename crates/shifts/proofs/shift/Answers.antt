use Rattle.std.proofs.Common.{◌≡◌, refl, ap, ◌∙◌, ◌/◌, ◌^◌, length, arith}
use Rattle.tape.specs.Tape.{start}
use Rattle.draws.specs.Draws.{bind, run}
use Rattle.shares.specs.Refresh.{refresh}
use Rattle.shares.specs.Sharing.{arithmetic}
use Rattle.halves.specs.Shift.{shift}
use Rattle.checks.proofs.CheckLaws.{Passed, all_passed, checked, alone}
use Rattle.gate.proofs.GadgetLaws.{silent_refused, silent_ran_lem}
use Rattle.demands.specs.Gadgets.{shift_range, shift_gadget}
use Rattle.demands.proofs.RangeLaws.{shift_range_out, whole_power}
use Rattle.shifts.proofs.shift.Goals as goal
use Rattle.shifts.proofs.shift.Goals.{In-Ok}

good : (c : In-Ok) → let a = c.args in Passed a.shares.now (length a.out.now) (shift_range a.modulus a.t) a.modulus
good c = all_passed _ _ _ _ (checked _ _ c.in-Ok.ensures.passes c.quotient.ensures.found (λ t. refl))

-- the modulus that the steps are told is the one that is left
left : (c : In-Ok) → c.in-Ok.m ≡ c.args.modulus / 2 ^ c.args.t
left c = rw c.in-Ok.ensures.is at c.quotient.ensures.same

pub shifted-requires : goal.shifted-requires
shifted-requires c =
    let (m, (low, high), d, two) = shift_range_out _ _ (good c).range in
    let e = whole_power _ _ d in
    rw (left c) (high, two, rw (← e) (omega arith), rw (← e) (alone (good c).ready))

pub finish-requires : goal.finish-requires
finish-requires c = let g = (good (goal.at.finish-requires c).In-Ok).ready in omega (arith, g.fits, g.most)

pub returns-in-Ok : goal.returns-in-Ok
unfolding shift_gadget
returns-in-Ok c =
    let a = c.args in
    let at = (goal.at.returns-in-Ok c).In-Ok in
    silent_ran_lem _ _ _ _ _ _ _ _ (checked _ _ c.in-Ok.ensures.passes c.quotient.ensures.found (λ t. refl)) (good at).ready.fits c.finish.ensures
    (c.shifted.ensures ∙ ap (λ m. run (bind (shift m a.t a.shares.now) (refresh (arithmetic m))) a.tape.now start) (left at))

pub returns-in-Err : goal.returns-in-Err
unfolding shift_gadget
returns-in-Err c = silent_refused _ _ _ _ _ _ _ _ (checked _ _ c.in-Err.ensures c.quotient.ensures.found (λ t. refl)) (c.from.ensures _)
