use Rattle.std.proofs.Common.{refl, ap, ◌∙◌, length, arith, rules}
use Rattle.tape.specs.Tape.{start}
use Rattle.draws.specs.Draws.{bind, done, run}
use Rattle.shares.specs.Refresh.{refresh}
use Rattle.shares.specs.Sharing.{arithmetic}
use Rattle.checks.proofs.CheckLaws.{checked}
use Rattle.checks.proofs.AdmissionLaws.{Ready, ready}
use Rattle.gate.proofs.GadgetLaws.{silent_refused, silent_ran_lem, given_copy, held}
use Rattle.demands.specs.Gadgets.{refresh_gadget}
use Rattle.refreshes.proofs.refresh.Goals as goal
use Rattle.refreshes.proofs.refresh.Goals.{In-Ok}

good : (c : In-Ok) → let a = c.args in Ready a.shares.now (length a.out.now) 2 4294967295 a.modulus a.modulus c.in-Ok.m
good c = ready _ c.inside.ensures.found c.inside.ensures.same c.in-Ok.ensures

pub copy_in-requires : goal.copy_in-requires
copy_in-requires c = (good c).checked.most

pub refresh-fresh-requires : goal.refresh-fresh-requires
refresh-fresh-requires c =
    let g = good (goal.at.refresh-fresh-requires c).In-Ok in
    (search rules, (search rules, rw g.same (held g.checked g.least c.copy_in.ensures)))

pub finish-requires : goal.finish-requires
finish-requires c = let g = (good (goal.at.finish-requires c).In-Ok).checked in omega (arith, g.fits, g.most)

pub returns-in-Ok : goal.returns-in-Ok
unfolding refresh_gadget bind
returns-in-Ok c =
    let g = good (goal.at.returns-in-Ok c).In-Ok in
    let a = c.args in
    silent_ran_lem _ _ _ done _ _ _ _ g.passes g.checked.fits c.finish.ensures
    (given_copy (refresh (arithmetic _)) _ c.copy_in.ensures c.start.ensures _ _ c.refresh-fresh.ensures
    ∙ ap (λ m. run (refresh (arithmetic m) a.shares.now) a.tape.now start) g.same)

pub returns-in-Err : goal.returns-in-Err
unfolding refresh_gadget
returns-in-Err c = silent_refused _ _ _ done _ _ _ _ (checked _ _ c.in-Err.ensures c.inside.ensures.found (λ t. refl)) (c.from.ensures _)
