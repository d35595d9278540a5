use Rattle.std.proofs.Common.{ℕ, ◌^◌, ◌-◌, ◌<◌, get_or}
use Rattle.rules.proofs.ListLaws.{Added}
use Rattle.psi.proofs.added.Given as goal

abbrev pub invariant-loop-i : goal.invariant-loop-i
invariant-loop-i l = (j : ℕ) → j < l.i → Added (2 ^ l.k) (l.n - 1) l.u l.z j (get_or l.word-items j 0)
