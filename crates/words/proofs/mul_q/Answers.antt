use borrow.Author.Rules.{rules}
use Prim.Native.Nat.{◌*◌, ◌^◌, ◌<◌}
use native.Mathlib.Nat.{le_of_lt, mul-le-mul_left, mul-le-mul_right}
use native.Mathlib.Omega.{arith}
use Rattle.words.proofs.mul_q.Goals as goal

product : (c : goal.Start) → c.args.a * c.args.b < 2 ^ 64
product c =
    let ha : c.args.a < 2 ^ 32 = search rules in
    let hb : c.args.b < 2 ^ 32 = search rules in
    omega (arith, mul-le-mul_left c.args.a (le_of_lt hb), mul-le-mul_right (2 ^ 32) ha)

pub overflow_mul-a : goal.overflow_mul-a
overflow_mul-a c = let h = product c in omega arith
