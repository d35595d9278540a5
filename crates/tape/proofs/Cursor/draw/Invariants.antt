use Rattle.std.proofs.Common.{◌≡◌, ◌-◌, length}
use Rattle.tape.specs.Tape.{draw_at}
use Rattle.tape.proofs.Cursor.draw.Given as goal

abbrev pub invariant-loop-at : goal.invariant-loop-at
invariant-loop-at l = draw_at l.tape (record { at = l.at }) l.m ≡ draw_at l.tape (record { at = l.initial.at }) l.m

abbrev pub decreases-loop-at : goal.decreases-loop-at
decreases-loop-at l = length l.tape - l.at
