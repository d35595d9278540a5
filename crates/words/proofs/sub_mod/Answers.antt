use Rattle.words.proofs.WordLaws.{sub_low, sub_high}
use Rattle.words.proofs.sub_mod.Goals as goal

pub returns-then-b-a : goal.returns-then-b-a
returns-then-b-a c = sub_low c.requires.0 c.requires.1 c.if-b-a.true

pub returns-else-b-a : goal.returns-else-b-a
returns-else-b-a c = sub_high c.requires.0 c.requires.1 c.if-b-a.false
