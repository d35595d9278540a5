use Rattle.std.proofs.Common.{ap, ◌∙◌, ◌^◌, length, arith}
use Rattle.tape.specs.Tape.{start}
use Rattle.draws.specs.Draws.{bind, run}
use Rattle.shares.specs.Refresh.{refresh}
use Rattle.shares.specs.Sharing.{arithmetic, boolean}
use Rattle.halves.specs.ToBoolean.{to_boolean}
use Rattle.checks.proofs.CheckLaws.{checked_width, alone}
use Rattle.checks.proofs.AdmissionLaws.{Ready, ready_width}
use Rattle.gate.proofs.GadgetLaws.{silent_refused, silent_ran_lem}
use Rattle.demands.specs.Gadgets.{to_boolean_gadget}
use Rattle.shifts.proofs.to_boolean.Goals as goal
use Rattle.shifts.proofs.to_boolean.Goals.{In-Ok}

good : (c : In-Ok) → let a = c.args in Ready a.shares.now (length a.out.now) 1 31 a.k (2 ^ a.k) c.in-Ok.k
good c = ready_width _ (omega arith) c.inside.ensures.found c.inside.ensures.same c.width_bound.ensures c.in-Ok.ensures

pub in_bits-requires : goal.in_bits-requires
in_bits-requires c = let g = good c in rw g.same (g.least, g.most, alone g.checked)

pub finish-requires : goal.finish-requires
finish-requires c = let g = (good (goal.at.finish-requires c).In-Ok).checked in omega (arith, g.fits, g.most)

pub returns-in-Ok : goal.returns-in-Ok
unfolding to_boolean_gadget
returns-in-Ok c =
    let a = c.args in
    let g = good (goal.at.returns-in-Ok c).In-Ok in
    silent_ran_lem _ (arithmetic _) (boolean _) _ _ _ _ _ g.passes g.checked.fits c.finish.ensures
    (c.in_bits.ensures ∙ ap (λ k. run (bind (to_boolean k a.shares.now) (refresh (boolean k))) a.tape.now start) g.same)

pub returns-in-Err : goal.returns-in-Err
unfolding to_boolean_gadget
returns-in-Err c = silent_refused _ (arithmetic _) (boolean _) _ _ _ _ _ (checked_width _ _ 31 _ (omega arith) c.in-Err.ensures c.inside.ensures.found c.width_bound.ensures) (c.from.ensures _)
