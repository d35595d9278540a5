use Prim.Native.Nat.{◌*◌}
use lib.ListN.{take}
use Rattle.halves.specs.Halving.{less}
use Rattle.halves.proofs.FinishLaws.{Finishing}
use Rattle.halving.proofs.steps.finished.Given as goal

abbrev pub invariant-loop-i : goal.invariant-loop-i
invariant-loop-i l = Finishing l.m l.n (less (2 * l.m) (take l.n l.a) (take l.n l.shares)) l.i l.sum l.words
