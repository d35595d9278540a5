use Rattle.std.proofs.Common.{◌≡◌, sym, ap, ◌∙◌, length, arith}
use Rattle.numbers.specs.Modulo.{q}
use Rattle.params.specs.Sets.{kind_of}
use Rattle.params.proofs.SetLaws.{bounds_are}
use Rattle.tape.specs.Tape.{start}
use Rattle.draws.specs.Draws.{bind, run}
use Rattle.shares.specs.Refresh.{refresh}
use Rattle.checks.proofs.CheckLaws.{Passed, all_passed, alone}
use Rattle.gate.proofs.GadgetLaws.{silent_refused, silent_ran_lem}
use Rattle.sizes.specs.Widening.{widened, widen}
use Rattle.demands.specs.Gadgets.{kind_range, widen_gadget}
use Rattle.demands.proofs.Answers.{kind_checked}
use Rattle.widens.proofs.widen.Goals as goal
use Rattle.widens.proofs.widen.Goals.{In-Ok}

good : (c : In-Ok) → let a = c.args in Passed a.shares.now (length a.out.now) (kind_range a.set a.kind) q
good c = all_passed _ _ _ _ (kind_checked _ _ _ _ _ c.bounds.ensures c.in-Ok.ensures.passes)

-- the bounds are those of the set and the kind
found : (c : In-Ok) → c.in-Ok.bounds ≡ kind_of c.args.set c.args.kind
found c = (bounds_are _ _ (sym c.bounds.ensures ∙ c.in-Ok.ensures.is)).1

pub widened-requires : goal.widened-requires
widened-requires c = alone (good c).ready

pub finish-requires : goal.finish-requires
finish-requires c = let g = (good (goal.at.finish-requires c).In-Ok).ready in omega (arith, g.fits, g.most)

pub returns-in-Ok : goal.returns-in-Ok
unfolding widen_gadget
returns-in-Ok c =
    let a = c.args in
    let at = (goal.at.returns-in-Ok c).In-Ok in
    silent_ran_lem _ _ _ _ _ _ _ _ (kind_checked _ _ _ _ _ c.bounds.ensures c.in-Ok.ensures.passes) (good at).ready.fits c.finish.ensures
    (c.widened.ensures ∙ ap (λ k. run (bind (widen k a.shares.now) (refresh (widened k))) a.tape.now start) (found at))

pub returns-in-Err : goal.returns-in-Err
unfolding widen_gadget
returns-in-Err c = silent_refused _ _ _ _ _ _ _ _ (kind_checked _ _ _ _ _ c.bounds.ensures c.in-Err.ensures) (c.from.ensures _)
