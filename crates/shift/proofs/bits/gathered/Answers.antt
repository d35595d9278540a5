use Rattle.shift.proofs.bits.gathered.Goals as goal

pub returns-then-gathers : goal.returns-then-gathers
returns-then-gathers c = rw c.if-gathers.true c.with_bit.ensures

pub returns : goal.returns
returns c = rw c.if-gathers.false
