use Rattle.std.proofs.Common.{ap, ◌∙◌, ◌^◌, length, pow_mono, arith, rules}
use Rattle.tape.specs.Tape.{start}
use Rattle.draws.specs.Draws.{bind, done, run}
use Rattle.shares.specs.Refresh.{refresh}
use Rattle.shares.specs.Sharing.{boolean}
use Rattle.checks.proofs.CheckLaws.{checked_width}
use Rattle.checks.proofs.AdmissionLaws.{Ready, ready_width}
use Rattle.gate.proofs.GadgetLaws.{silent_refused, silent_ran_lem, given_copy, held}
use Rattle.demands.specs.Gadgets.{boolean_gadget}
use Rattle.refreshes.proofs.refresh_boolean.Goals as goal
use Rattle.refreshes.proofs.refresh_boolean.Goals.{In-Ok}

good : (c : In-Ok) → let a = c.args in Ready a.shares.now (length a.out.now) 1 31 a.width (2 ^ a.width) c.in-Ok.k
good c = ready_width _ (omega arith) c.inside.ensures.found c.inside.ensures.same c.width_bound.ensures c.in-Ok.ensures

pub copy_in-requires : goal.copy_in-requires
copy_in-requires c = (good c).checked.most

pub invariant_of-kind : goal.invariant_of-kind
invariant_of-kind c = let g = good (goal.at.invariant_of-kind c).In-Ok in record { fits = rw g.same g.most }

pub refresh-fresh-requires : goal.refresh-fresh-requires
refresh-fresh-requires c =
    let g = good (goal.at.refresh-fresh-requires c).In-Ok in
    (search rules, (search rules, rw g.same (held g.checked (pow_mono {i = 1} g.least) c.copy_in.ensures)))

pub finish-requires : goal.finish-requires
finish-requires c = let g = (good (goal.at.finish-requires c).In-Ok).checked in omega (arith, g.fits, g.most)

pub returns-in-Ok : goal.returns-in-Ok
unfolding boolean_gadget bind
returns-in-Ok c =
    let g = good (goal.at.returns-in-Ok c).In-Ok in
    let a = c.args in
    silent_ran_lem _ (boolean _) _ done _ _ _ _ g.passes g.checked.fits c.finish.ensures
    (given_copy (refresh (boolean _)) _ c.copy_in.ensures c.start.ensures _ _ c.refresh-fresh.ensures
    ∙ ap (λ m. run (refresh (boolean m) a.shares.now) a.tape.now start) g.same)

pub returns-in-Err : goal.returns-in-Err
unfolding boolean_gadget
returns-in-Err c = silent_refused _ (boolean _) _ done _ _ _ _ (checked_width _ _ 31 _ (omega arith) c.in-Err.ensures c.inside.ensures.found c.width_bound.ensures) (c.from.ensures _)
