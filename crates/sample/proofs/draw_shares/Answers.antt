use Rattle.std.proofs.Common.{pow_pos, pow_mono}
use Rattle.masks.proofs.DrawingLaws.{drawing_start, drawing_all, drawing_ended, drawing_more}
use Rattle.sample.proofs.draw_shares.Goals as goal

pub loop-i-init : goal.loop-i-init
loop-i-init c = drawing_start _ _ _ _ (pow_pos c.args.mu) c.requires.1

pub draw-requires : goal.draw-requires
draw-requires c = rw c.power-m.ensures (pow_mono {i = 1} c.requires.2)

-- a draw below m is one below 2^mu
pub returns-in_default : goal.returns-in_default
returns-in_default c = drawing_ended c.loop-i.invariant c.loop-i-test.true (rw c.power-m.ensures at c.in_default.ensures)

pub loop-i-preserved : goal.loop-i-preserved
loop-i-preserved c = drawing_more c.loop-i.invariant c.loop-i-test.true (rw c.power-m.ensures at c.in-Some.ensures)

pub returns : goal.returns
returns c = let l = c.loop-i.invariant in (drawing_all l c.loop-i-test.false, l.below)
