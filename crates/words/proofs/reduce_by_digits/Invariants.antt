use Rattle.words.proofs.WordLaws.{Digits}
use Rattle.words.proofs.reduce_by_digits.Given as goal

abbrev pub invariant-loop-i : goal.invariant-loop-i
invariant-loop-i l = Digits l.x l.m l.i l.r
