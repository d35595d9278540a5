use borrow.Author.Rules.{rules}
use Prim.Native.Nat.{◌*◌, ◌/◌, ◌^◌, ◌<◌}
use native.Mathlib.Omega.{arith}
use native.Mathlib.Nat.{le_of_lt}
use Rattle.numbers.specs.Modulo.{q}
use Rattle.halves.proofs.CarrySteps.{scaled_small, scaled_fits}
use Rattle.carries.proofs.floor_by_q.Goals as goal
use Rattle.carries.proofs.floor_by_q.Goals.{Start}

product : (c : Start) → c.args.x * c.args.c < 2 ^ 64
product c = scaled_fits c.requires (search rules)

floor : (c : Start) → c.args.x * c.args.c / q < 2 ^ 32
floor c = scaled_small c.args.c q (omega arith) (le_of_lt (search rules)) c.args.x c.requires

pub overflow_mul-result : goal.overflow_mul-result
overflow_mul-result c = let h = product c in omega arith

pub overflow_cast-result-4 : goal.overflow_cast-result-4
overflow_cast-result-4 c = let h = floor c in omega arith
