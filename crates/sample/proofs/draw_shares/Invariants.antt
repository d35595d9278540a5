use Prim.Native.Nat.{◌^◌}
use lib.ListN.{replicate}
use Rattle.draws.specs.Draws.{run}
use Rattle.draws.specs.Plan.{draw_all}
use Rattle.masks.proofs.DrawingLaws.{Drawing}
use Rattle.sample.proofs.draw_shares.Given as goal

abbrev pub invariant-loop-i : goal.invariant-loop-i
invariant-loop-i l = Drawing (2 ^ l.mu) l.n l.tape (run (draw_all (replicate l.n (2 ^ l.mu))) l.tape l.initial.cur) l.i l.words l.cur
