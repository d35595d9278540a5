use mathlib.Core.Path.{sym, ◌∙◌}
use native.Mathlib.Omega.{arith}
use Rattle.numbers.proofs.BitsLaws.{alpha_bits}
use Rattle.words.proofs.alpha.Goals as goal

pub returns : goal.returns
returns c = c.bits.ensures ∙ sym (alpha_bits c.args.n (omega arith) (omega arith))
