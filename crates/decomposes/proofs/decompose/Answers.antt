use Rattle.std.proofs.Common.{is_some, refl, sym, ap, ◌∙◌}
use Rattle.numbers.specs.Modulo.{q}
use Rattle.params.specs.declared.Params.{Params}
use Rattle.params.proofs.SetLaws.{known_is, set_is}
use Rattle.tape.specs.Tape.{start}
use Rattle.draws.specs.Draws.{run}
use Rattle.shares.specs.Sharing.{arithmetic}
use Rattle.gate.specs.Gadget.{closed}
use Rattle.checks.proofs.CheckLaws.{all_passed, checked}
use Rattle.gate.proofs.GadgetLaws.{gadget_refused, gadget_ran}
use Rattle.parts.specs.Decompose.{decompose}
use Rattle.demands.specs.Gadgets.{decompose_gadget}
use Rattle.decomposes.proofs.decompose.Goals as goal

pub decompose_by-requires : goal.decompose_by-requires
decompose_by-requires c = (all_passed _ _ _ _ c.in-Ok.ensures.passes).ready

pub returns-in-Ok : goal.returns-in-Ok
unfolding decompose_gadget
returns-in-Ok c =
    let a = c.args in
    gadget_ran _ a.shares.now a.tape.now a.out.now (checked _ _ c.in-Ok.ensures.passes (ap is_some c.of_set.ensures ∙ known_is a.set) (λ t. refl)) c.decompose_by.ensures
    (ap (λ (p : Params). run (closed (arithmetic q) (decompose p a.shares.now)) a.tape.now start) (set_is a.set (sym c.of_set.ensures ∙ c.in-Ok.ensures.is)))

pub returns-in-Err : goal.returns-in-Err
unfolding decompose_gadget
returns-in-Err c =
    let a = c.args in
    gadget_refused _ a.shares.now a.tape.now a.out.now _ (checked _ _ c.in-Err.ensures (ap is_some c.of_set.ensures ∙ known_is a.set) (λ t. refl)) (c.from.ensures _)
