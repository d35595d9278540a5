use lib.ListN.{take}
use Rattle.draws.specs.Draws.{run}
use Rattle.halves.specs.Halvings.{halvings}
use Rattle.halves.proofs.HalvingsLaws.{Halved}
use Rattle.shift.proofs.many.of_many.Given as goal

abbrev pub invariant-loop-b : goal.invariant-loop-b
invariant-loop-b l = Halved 8 l.n l.gathers l.m l.t l.tape (run (halvings l.gathers l.m l.t (take l.n l.fn.shares)) l.tape l.fn.cursor) l.b l.given.words l.bits l.modulus l.given.cursor
