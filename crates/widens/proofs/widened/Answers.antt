use Rattle.std.proofs.Common.{ap, ◌∙◌, arith, rules}
use Rattle.params.proofs.SetLaws.{kind_laws}
use Rattle.tape.specs.Tape.{start}
use Rattle.draws.specs.Draws.{bind, run}
use Rattle.shares.specs.Sharing.{arithmetic}
use Rattle.shares.specs.Refresh.{refresh}
use Rattle.gate.proofs.GadgetLaws.{closed_if_given, held, held_if_given}
use Rattle.sizes.specs.Widening.{widen}
use Rattle.sizes.proofs.WideningSteps.{wide_two}
use Rattle.widens.proofs.widened.Goals as goal

pub copy_in-requires : goal.copy_in-requires
copy_in-requires c = c.requires.most

pub widen-wider-requires : goal.widen-wider-requires
widen-wider-requires c = held c.requires (omega arith) c.copy_in.ensures

pub close-requires : goal.close-requires
close-requires c = (search rules, rw c.wide.ensures (held_if_given c.requires _ c.widen-wider.result _ (wide_two (kind_laws c.args.bounds)) c.widen-wider.ensures))

pub returns : goal.returns
returns c =
    let a = c.args in
    closed_if_given (widen _) _ c.copy_in.ensures c.start.ensures (arithmetic _) _ _ _ _ c.widen-wider.ensures c.close.ensures
    ∙ ap (λ m. run (bind (widen a.bounds a.shares.now) (refresh (arithmetic m))) a.tape.now start) c.wide.ensures
