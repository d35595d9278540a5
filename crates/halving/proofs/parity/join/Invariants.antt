use Rattle.halves.proofs.ParityLaws.{Signing}
use Rattle.halving.proofs.parity.join.Given as goal

abbrev pub invariant-loop-i : goal.invariant-loop-i
invariant-loop-i l = Signing l.modulus l.p l.n l.fn.words l.initial.out l.i l.out
