-- The verdict on a signed number z, without shares: whether its size is below the bound, its sides, and what is opened.
use Rattle.std.specs.Prelude.{Bool, List, ℕ, ◌*◌, ◌/◌, ◌%◌, ◌^◌, length, drop, ltb, ℤ, pos, nat_abs, neg_ℤ, ◌-ℤ◌}
use Rattle.numbers.specs.Modulo.{q}
use Rattle.numbers.specs.Centred.{residue}
use Rattle.params.specs.declared.Bounds.{Bounds}
use Rattle.sizes.specs.Widening.{wide}
use Rattle.sizes.specs.Scalars.{scalars_of}
use Rattle.sizes.specs.Verdict.{front_plan}

-- z's size is below a
unfoldable pub accepted : Bounds → ℤ → Bool
accepted bounds z = ltb (nat_abs z) bounds.a

-- floor((z − a)/2^ρ), z − a taken modulo 2^ρ·q: the left side is that of z, the right one that of −z
unfoldable pub side_of : Bounds → ℤ → ℕ
side_of bounds z = residue (wide bounds) (z -ℤ pos bounds.a) / 2 ^ bounds.rho

unfoldable pub left_of : Bounds → ℤ → ℕ
left_of bounds z = side_of bounds z

unfoldable pub right_of : Bounds → ℤ → ℕ
right_of bounds z = side_of bounds (neg_ℤ z)

-- what is opened of z, by all draws rs of a call with n shares, of which those of the zero test come last: the sides and the scalars, multiplied mod q
unfoldable pub opened_of : Bounds → (n : ℕ) → ℤ → (rs : List ℕ) → ℕ
opened_of bounds n z rs = left_of bounds z * right_of bounds z * scalars_of n (drop (length (front_plan bounds n)) rs) n % q
