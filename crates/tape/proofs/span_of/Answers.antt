use mathlib.Core.Path.{ap, ◌∙◌}
use Prim.Native.Nat.{ℕ, ◌^◌}
use native.Mathlib.Omega.{arith}
use Rattle.numbers.proofs.BitsLaws.{bits_most}
use Rattle.words.proofs.WordLaws.{one_shl}
use Rattle.tape.proofs.span_of.Goals as goal

pub overflow_shl-result : goal.overflow_shl-result
overflow_shl-result c = omega (arith, c.bits.ensures, bits_most c.args.m)

pub returns : goal.returns
returns c = one_shl 64 c.bits.result (omega (arith, c.bits.ensures, bits_most c.args.m)) ∙ ap (λ (k : ℕ). 2 ^ k) c.bits.ensures
