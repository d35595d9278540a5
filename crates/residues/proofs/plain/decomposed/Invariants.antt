use Rattle.std.proofs.Common.{◌+◌, ◌-◌, ◌≤◌}
use Rattle.residues.proofs.plain.decomposed.Given as goal

abbrev pub invariant-loop-middle : goal.invariant-loop-middle
invariant-loop-middle l = (l.high ≤ l.middle) × (l.middle ≤ l.r + l.half)

abbrev pub decreases-loop-middle : goal.decreases-loop-middle
decreases-loop-middle l = l.r + l.half - l.middle
