use mathlib.Core.Path.{◌∙◌}
use Prim.Native.Nat.{◌+◌, ◌-◌, ◌*◌, ◌^◌, ◌<◌}
use native.Mathlib.Omega.{arith}
use Rattle.halves.proofs.ParityLaws.{factor_fits, factor_picks}
use Rattle.halving.proofs.parity.signed.Goals as goal
use Rattle.halving.proofs.parity.signed.Goals.{After-neg_mod}

fits : (c : After-neg_mod) → c.args.p * c.neg_mod.result + (1 - c.args.p) * c.args.x < 2 ^ 32
fits c = factor_fits _ c.requires.1 (omega arith) (omega arith)

pub overflow_mul-result : goal.overflow_mul-result
overflow_mul-result c = omega (arith, fits c)

pub overflow_mul-result-2 : goal.overflow_mul-result-2
overflow_mul-result-2 c = omega (arith, fits c)

pub overflow_add-result : goal.overflow_add-result
overflow_add-result c = omega (arith, fits c)

pub returns : goal.returns
returns c = factor_picks _ _ _ c.requires.1 ∙ rw c.neg_mod.ensures
