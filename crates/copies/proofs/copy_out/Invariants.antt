use Rattle.copies.proofs.CopyLaws.{Writing}
use Rattle.copies.proofs.copy_out.Given as goal

abbrev pub invariant-loop-i : goal.invariant-loop-i
invariant-loop-i l = Writing l.fn.words l.initial.out l.i l.out
