use lib.ListN.{take}
use Rattle.numbers.specs.Modulo.{q}
use Rattle.draws.specs.Draws.{run}
use Rattle.sizes.specs.Product.{row}
use Rattle.sizes.proofs.ProductSteps.{Crossing}
use Rattle.product.proofs.row.Given as goal

abbrev pub invariant-loop-j : goal.invariant-loop-j
invariant-loop-j l = Crossing q l.n l.l l.r l.i l.tape (run (row q (take l.n l.l) (take l.n l.r) l.i (take l.n l.fn.shares)) l.tape l.fn.cursor) l.j l.words l.cur
