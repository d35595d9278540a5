use mathlib.Core.Path.{ap}
use Prim.Native.Nat.{◌*◌, ◌^◌, ◌<◌}
use native.Mathlib.Omega.{arith}
use Rattle.numbers.specs.Modulo.{q}
use Rattle.params.proofs.SetLaws.{kind_laws}
use Rattle.params.proofs.RoomLaws.{rho_most}
use Rattle.widening.proofs.wide.Goals as goal

pub power-requires : goal.power-requires
power-requires c = omega (arith, rho_most (kind_laws c.args.bounds))

pub overflow_mul-result : goal.overflow_mul-result
overflow_mul-result c = let h : c.power.result * q < 2 ^ 32 = rw c.power.ensures (kind_laws c.args.bounds).word in omega arith

pub returns : goal.returns
returns c = ap (λ p. p * q) c.power.ensures
