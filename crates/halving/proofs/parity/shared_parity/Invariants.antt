use Rattle.std.proofs.Common.{take, ◌+◌}
use Rattle.draws.specs.Draws.{run}
use Rattle.halves.specs.Halving.{shared_parity}
use Rattle.halves.proofs.ParityLaws.{Joining}
use Rattle.halving.proofs.parity.shared_parity.Given as goal

abbrev pub invariant-loop-share : goal.invariant-loop-share
invariant-loop-share l = Joining 8 l.n l.modulus l.fn.shares l.tape (run (shared_parity l.modulus (take l.n l.fn.shares)) l.tape l.fn.cursor) (l.share-index + 1) l.given.words l.given.cursor
