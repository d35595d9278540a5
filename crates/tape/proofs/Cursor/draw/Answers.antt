use Rattle.std.proofs.Common.{◌≡◌, sym, ◌∙◌, get_or}
use Rattle.tape.specs.Tape.{low_bits}
use Rattle.tape.proofs.DrawLaws.{draw_end, draw_hit, draw_skip, low_is}
use Rattle.tape.proofs.Cursor.draw.Goals as goal
use Rattle.tape.proofs.Cursor.draw.Goals.{After-low-r}

-- what was read is the word's low bits
read : (c : After-low-r) →
    low_bits c.args.m (get_or c.args.tape.now c.loop-at.at 0) ≡ c.low-r.result
read c = low_is _ _ _ _ c.span_of-span.ensures c.low-r.ensures

pub returns-then-r-m : goal.returns-then-r-m
returns-then-r-m c =
    sym (draw_hit _ _ _ c.loop-at-test.true _ (read (goal.at.returns-then-r-m c).After-low-r) c.if-r-m.true) ∙ c.loop-at.invariant

pub loop-at-preserved : goal.loop-at-preserved
loop-at-preserved c =
    sym (draw_skip _ _ _ c.loop-at-test.true _ (read (goal.at.loop-at-preserved c).After-low-r) c.if-r-m.false) ∙ c.loop-at.invariant

pub returns : goal.returns
returns c = sym (sym c.loop-at.invariant ∙ draw_end _ _ _ c.loop-at-test.false)
