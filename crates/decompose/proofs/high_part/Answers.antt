use Rattle.std.proofs.Common.{sym, ap, ◌∙◌}
use Rattle.params.proofs.SetLaws.{set_laws}
use Rattle.tape.specs.Tape.{ran}
use Rattle.shares.proofs.ArraysLaws.{held_below}
use Rattle.parts.proofs.DecomposeSteps.{shares_ended, opens}
use Rattle.decompose.proofs.high_part.Goals as goal

pub returns-in_err-high : goal.returns-in_err-high
returns-in_err-high c = rw c.from_residual.ensures (sym (shares_ended _ _ _ _ c.in_err-high.ensures))

pub opened-requires : goal.opened-requires
opened-requires c = held_below c.requires (set_laws c.args.p).parts_least c.in_ok-high.ensures.1

pub returns : goal.returns
returns c = ap (λ high. ran high c.in_ok-high.high.cursor) c.opened.ensures ∙ sym (opens _ _ _ _ c.in_ok-high.ensures.0)
