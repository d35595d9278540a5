use Rattle.std.proofs.Common.{take}
use Rattle.draws.specs.Draws.{run}
use Rattle.shares.specs.Refresh.{refresh}
use Rattle.shares.proofs.TurnLaws.{Writing}
use Rattle.shares.proofs.refreshing.refreshed.Given as goal

abbrev pub invariant-loop-i : goal.invariant-loop-i
invariant-loop-i g l = let kind = g.K.ShareKind.kind l.kind in
    Writing kind g.row.N l.n l.given.words l.tape (run (refresh kind (take l.n l.given.words)) l.tape l.given.cursor) l.i l.words l.last_share l.cur
