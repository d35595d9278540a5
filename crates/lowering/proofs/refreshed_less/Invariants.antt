use Rattle.std.proofs.Common.{take}
use Rattle.draws.specs.Draws.{run}
use Rattle.shares.specs.Sharing.{arithmetic}
use Rattle.shares.specs.Refresh.{refresh}
use Rattle.shares.proofs.TurnLaws.{Writing}
use Rattle.first.specs.First.{take_from_first}
use Rattle.lowering.proofs.refreshed_less.Given as goal

abbrev pub invariant-loop-i : goal.invariant-loop-i
invariant-loop-i l = Writing (arithmetic l.m) 8 l.n (take_from_first (arithmetic l.m) l.offset l.given.words) l.tape (run (refresh (arithmetic l.m) (take_from_first (arithmetic l.m) l.offset (take l.n l.given.words))) l.tape l.given.cursor) l.i l.words l.last_share l.cur
