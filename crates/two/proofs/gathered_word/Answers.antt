use Prim.Native.Nat.{◌+◌, ◌*◌, ◌%◌, ◌^◌, ◌<◌}
use native.Mathlib.Omega.{arith}
use Rattle.halves.proofs.BitLaws.{bit_fits}
use Rattle.two.proofs.gathered_word.Goals as goal
use Rattle.two.proofs.gathered_word.Goals.{After-power}

fits : (c : After-power) → let a = c.args in a.word + c.power.result * (a.share % 2) < 2 ^ 32
fits c = bit_fits c.args.share c.requires.0 c.power.ensures c.requires.1

pub overflow_mul-result : goal.overflow_mul-result
overflow_mul-result c = omega (arith, fits c)

pub overflow_add-result : goal.overflow_add-result
overflow_add-result c = omega (arith, fits c)

pub returns-then-gathers : goal.returns-then-gathers
returns-then-gathers c = rw (c.if-gathers.true, c.power.ensures)

pub returns : goal.returns
returns c = rw c.if-gathers.false
