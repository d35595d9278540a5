use mathlib.Core.Path.{refl}
use lib.Count.{leading_le}
use Rattle.numbers.specs.Bits.{bits_of}
use Rattle.words.proofs.bits.Goals as goal

pub overflow_sub-result-2 : goal.overflow_sub-result-2
overflow_sub-result-2 c = leading_le 32 _

pub returns : goal.returns
unfolding bits_of
returns c = refl
