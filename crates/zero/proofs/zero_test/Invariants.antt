use Rattle.std.proofs.Common.{take}
use Rattle.numbers.specs.Modulo.{q}
use Rattle.draws.specs.Draws.{run}
use Rattle.shares.proofs.LoopLaws.{Looping}
use Rattle.sizes.specs.ZeroTest.{scale_turn, zero_test}
use Rattle.zero.proofs.zero_test.Given as goal

abbrev pub invariant-loop : goal.invariant-loop
invariant-loop l = Looping (scale_turn q) l.n 8 l.n q l.tape (run (zero_test q (take l.n l.fn.shares)) l.tape l.fn.cursor) l.counter l.given.words l.given.cursor
