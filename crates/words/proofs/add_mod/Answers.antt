use Rattle.words.proofs.WordLaws.{add_low, add_high}
use Rattle.words.proofs.add_mod.Goals as goal

pub returns-then-a-left : goal.returns-then-a-left
returns-then-a-left c = add_low c.requires.0 c.requires.1 c.if-a-left.true

pub returns-else-a-left : goal.returns-else-a-left
returns-else-a-left c = add_high c.requires.0 c.requires.1 c.if-a-left.false
