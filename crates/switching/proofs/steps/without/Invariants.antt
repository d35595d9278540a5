use Prim.Native.Nat.{◌^◌}
use Rattle.halves.proofs.CarrySteps.{Taking}
use Rattle.switching.proofs.steps.without.Given as goal

abbrev pub invariant-loop-i : goal.invariant-loop-i
invariant-loop-i l = Taking l.m (2 ^ l.k) l.n l.e l.shares l.initial.words l.i l.words
