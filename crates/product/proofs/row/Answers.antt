use Rattle.std.proofs.Common.{arith}
use Rattle.shares.proofs.LoopLaws.{looping_done}
use Rattle.sizes.proofs.ProductSteps.{crossing_start, crossing_ended, crossing_draw, crossing_more}
use Rattle.product.proofs.row.Goals as goal

pub loop-j-init : goal.loop-j-init
loop-j-init c = let (h, a, w, v) = c.requires in crossing_start _ _ _ _ _ a w.size

pub returns-in_default : goal.returns-in_default
returns-in_default c = crossing_ended c.loop-j.invariant c.loop-j-test.true c.in_default.ensures

pub crossed-more-requires : goal.crossed-more-requires
crossed-more-requires c = let l = c.loop-j.invariant in
    let (h, a, w, v) = c.requires in
    (l.later, omega (arith, a.most, c.loop-j-test.true), crossing_draw l c.loop-j-test.true c.in-Some.ensures, l.left.held.all, w, v)

pub loop-j-preserved : goal.loop-j-preserved
loop-j-preserved c = crossing_more c.loop-j.invariant c.loop-j-test.true c.in-Some.ensures c.crossed-more.ensures

pub returns : goal.returns
returns c = let l = c.loop-j.invariant.left in (looping_done l c.loop-j-test.false, l.held.all)
