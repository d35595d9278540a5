use Rattle.shares.proofs.LoopLaws.{looping_done, looping_ended, looping_more}
use Rattle.sizes.proofs.ProductSteps.{product-start}
use Rattle.product.proofs.product.Goals as goal

pub loop-i-init : goal.loop-i-init
loop-i-init c = product-start _ _ _ _ c.requires.0 c.begun.ensures

pub row-requires : goal.row-requires
row-requires c = let s = c.requires in (c.loop-i-test.true, c.loop-i.invariant.held, s.0.all, s.1)

pub returns-in_err-given : goal.returns-in_err-given
returns-in_err-given c = rw c.from_residual.ensures (looping_ended c.loop-i.invariant c.loop-i-test.true c.in_err-given.ensures)

pub loop-i-preserved : goal.loop-i-preserved
loop-i-preserved c = let (e, w) = c.in_ok-given.ensures in looping_more c.loop-i.invariant c.loop-i-test.true e w

pub returns : goal.returns
returns c = let l = c.loop-i.invariant in (looping_done l c.loop-i-test.false, l.held.all)
