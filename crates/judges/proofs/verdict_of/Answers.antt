use borrow.Author.Tests.{eq-eqb, ne_eqb}
use Rattle.sizes.specs.Verdict.{verdict_of}
use Rattle.judges.proofs.verdict_of.Goals as goal

pub returns-then-opened-eq0 : goal.returns-then-opened-eq0
unfolding verdict_of
returns-then-opened-eq0 c = rw (eq-eqb _ 0 c.if-opened-eq0.true)

pub returns-else-opened-eq0 : goal.returns-else-opened-eq0
unfolding verdict_of
returns-else-opened-eq0 c = rw (ne_eqb _ 0 c.if-opened-eq0.false)
