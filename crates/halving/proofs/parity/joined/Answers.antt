use native.Mathlib.Omega.{arith}
use borrow.Author.Tests.{eq-eqb, ne_eqb}
use Rattle.halves.proofs.ParityLaws.{signed_below}
use Rattle.halving.proofs.parity.joined.Goals as goal

pub add_mod-requires : goal.add_mod-requires
add_mod-requires c = let a = c.args in
    (rw c.signed-y.ensures (signed_below a.modulus a.p (omega arith) c.requires.0), omega arith)

pub returns-then-i-eq0 : goal.returns-then-i-eq0
returns-then-i-eq0 c = rw (eq-eqb c.args.i 0 c.if-i-eq0.true, c.add_mod.ensures, c.signed-y.ensures)

pub returns-else-i-eq0 : goal.returns-else-i-eq0
returns-else-i-eq0 c = rw (ne_eqb c.args.i 0 c.if-i-eq0.false, c.signed-y.ensures)
