use lib.ListN.{take}
use Rattle.numbers.specs.Modulo.{q}
use Rattle.draws.specs.Draws.{run}
use Rattle.shares.proofs.LoopLaws.{Looping}
use Rattle.sizes.specs.Product.{row, product}
use Rattle.product.proofs.product.Given as goal

abbrev pub invariant-loop-i : goal.invariant-loop-i
invariant-loop-i l = Looping (row q (take l.n l.l) (take l.n l.r)) l.n 8 l.n q l.tape (run (product q (take l.n l.l) (take l.n l.r)) l.tape l.fn.cursor) l.i l.given.words l.given.cursor
