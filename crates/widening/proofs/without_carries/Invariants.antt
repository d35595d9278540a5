use Rattle.numbers.specs.Modulo.{q}
use Rattle.halves.proofs.CarrySteps.{Taking}
use Rattle.widening.proofs.without_carries.Given as goal

abbrev pub invariant-loop-i : goal.invariant-loop-i
invariant-loop-i l = Taking l.m q l.n l.carries l.shares l.initial.words l.i l.words
