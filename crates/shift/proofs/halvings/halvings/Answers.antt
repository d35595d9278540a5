use Rattle.halves.proofs.HalvingsLaws.{held_two, given_two}
use Rattle.shift.proofs.halvings.halvings.Goals as goal

pub of_two-requires : goal.of_two-requires
of_two-requires c = let p = c.requires in (p.0, p.1, held_two p.2)

pub returns-then-n-eq2 : goal.returns-then-n-eq2
returns-then-n-eq2 c = given_two _ _ _ _ _ _ _ _ _ c.if-n-eq2.true c.requires.2.all.size c.of_two.ensures
