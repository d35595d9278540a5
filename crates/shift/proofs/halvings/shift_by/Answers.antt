use Rattle.halves.proofs.HalvingsLaws.{given_shift}
use Rattle.shift.proofs.halvings.shift_by.Goals as goal

pub returns : goal.returns
returns c = given_shift _ _ _ _ _ _ _ c.halvings.ensures
