use Rattle.std.proofs.Common.{arith, rules}
use Rattle.shares.proofs.LoopLaws.{looping_done}
use Rattle.sizes.proofs.ZeroSteps.{zero_start, zero_ended, scalar_below, zero_held, zero_stopped, zero_more}
use Rattle.zero.proofs.zero_test.Goals as goal

pub loop-init : goal.loop-init
loop-init c = zero_start _ _ c.requires

pub returns-in_default : goal.returns-in_default
returns-in_default c = zero_ended c.loop.invariant c.loop-test.true c.in_default.ensures

pub overflow_add-r : goal.overflow_add-r
overflow_add-r c = let h = scalar_below c.loop.invariant c.loop-test.true c.in-Some.ensures in omega arith

pub refresh-requires : goal.refresh-requires
refresh-requires c = (search rules, (search rules, zero_held c.loop.invariant c.loop-test.true c.in-Some.ensures c.scaled.ensures))

pub returns-in_err-given : goal.returns-in_err-given
returns-in_err-given c = rw c.from_residual.ensures (zero_stopped c.loop.invariant c.loop-test.true c.in-Some.ensures c.scaled.ensures c.in_err-given.ensures)

pub loop-preserved : goal.loop-preserved
loop-preserved c = let (e, w) = c.in_ok-given.ensures in zero_more c.loop.invariant c.loop-test.true c.in-Some.ensures c.scaled.ensures e w

pub returns : goal.returns
returns c = let l = c.loop.invariant in (looping_done l c.loop-test.false, l.held.all)
