use Rattle.tape.specs.Tape.{start}
use Rattle.draws.specs.Draws.{run}
use Rattle.masks.specs.Polynomial.{polynomial}
use Rattle.masks.proofs.RowLaws.{Filling}
use Rattle.polynomial.proofs.polynomial.Given as goal

abbrev pub invariant-loop-c : goal.invariant-loop-c
invariant-loop-c l = Filling l.p l.n l.tape (run (polynomial l.p l.n l.initial.out) l.tape start) l.c l.out l.cursor
