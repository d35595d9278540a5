use mathlib.Core.Path.{sym, subst}
use Prim.Native.Nat.{ℕ, ◌^◌, ◌≤◌}
use native.Mathlib.Omega.{arith}
use lib.Pow.{pow_mono}
use Rattle.shares.specs.Arrays.{Held}
use Rattle.halves.proofs.HalvingsLaws.{given_bits, power_last}
use Rattle.shift.proofs.halvings.to_boolean.Goals as goal

pub halvings-requires : goal.halvings-requires
halvings-requires c =
    let e = power_last c.args.k c.requires.0 in
    let l : 2 ^ c.args.k ≤ 2 ^ 31 = pow_mono {i = c.args.k} {j = 31} c.requires.1 in
    (omega arith, omega (arith, e), subst (λ (M : ℕ). Held 8 c.args.n M c.args.shares) (sym e) c.requires.2)

pub returns : goal.returns
returns c = given_bits _ _ _ _ _ c.args.k c.requires.0 c.halvings.ensures
