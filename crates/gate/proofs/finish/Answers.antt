use Rattle.std.proofs.Common.{refl, ap, ◌∙◌}
use Rattle.shares.specs.Arrays.{shared}
use Rattle.gate.proofs.GadgetLaws.{told_ended, told_ran}
use Rattle.gate.proofs.finish.Goals as goal

pub returns-in_default : goal.returns-in_default
returns-in_default c = c.from.ensures _ ∙ told_ended _ _ (ap (shared _) c.in_default.is)

pub returns : goal.returns
returns c = rw c.copy_out.ensures (told_ran _ _ (ap (shared _) c.in-Some.is) _ refl refl)
