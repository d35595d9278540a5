-- Laws of the ranges of parameters.
use mathlib.Core.Path.{◌≡◌}
use mathlib.Core.Bool.{true}
use Prim.Native.Nat.{ℕ, ◌*◌, ◌/◌, ◌%◌, ◌^◌, ◌≤◌}
use native.Mathlib.Nat.{div-add-mod', mul-le-mul_right}
use native.Mathlib.Omega.{arith}
use lib.Dec.{leb, eqb}
use lib.Pow.{pow_pos}
use borrow.Author.Tests.{le-leb, leb-true, eq-eqb, eqb-true}
use Rattle.numbers.specs.Tests.{both}
use Rattle.checks.specs.Checks.{inside}
use Rattle.checks.proofs.CheckLaws.{both_left, both_right, inside_yes, inside_out}
use Rattle.demands.specs.Gadgets.{shift_range}

abbrev pub ShiftRange : ℕ → ℕ → Type 0
ShiftRange M t = (M ≤ 4294967295) × ((1 ≤ t) × (t ≤ 31)) × (M % 2 ^ t ≡ 0) × (2 ≤ M / 2 ^ t)

module _ (M t : ℕ) where
  -- of a modulus of 32 bits the rest is checked
  pub shift_range-word : M ≤ 4294967295 → shift_range M t ≡ both (inside 1 31 t) (both (eqb (M % 2 ^ t) 0) (leb 2 (M / 2 ^ t)))
  unfolding shift_range
  shift_range-word m = rw (le-leb M 4294967295 m)

  pub shift_range_in : ShiftRange M t → shift_range M t ≡ true
  unfolding shift_range
  shift_range_in (m, (l, h), d, two) = rw (le-leb M 4294967295 m, inside_yes 1 31 t l h, eq-eqb (M % 2 ^ t) 0 d) (le-leb 2 (M / 2 ^ t) two)

  pub shift_range_out : shift_range M t ≡ true → ShiftRange M t
  unfolding shift_range
  shift_range_out e =
      let f = both_right (leb M 4294967295) _ e in
      let g = both_right (inside 1 31 t) _ f in (
        leb-true M 4294967295 (both_left (leb M 4294967295) _ e),
        inside_out 1 31 t (both_left (inside 1 31 t) _ f),
        eqb-true (M % 2 ^ t) 0 (both_left (eqb (M % 2 ^ t) 0) _ g),
        leb-true 2 (M / 2 ^ t) (both_right (eqb (M % 2 ^ t) 0) _ g),
      )

-- a modulus that 2^t divides
pub whole_power : (M t : ℕ) → M % 2 ^ t ≡ 0 → M ≡ 2 ^ t * (M / 2 ^ t)
whole_power M t e = omega (arith, div-add-mod' M (2 ^ t))

pub whole_least : (M t : ℕ) → M % 2 ^ t ≡ 0 → 2 ≤ M / 2 ^ t → 2 ≤ M
whole_least M t e h = omega (arith, whole_power M t e, mul-le-mul_right (M / 2 ^ t) (pow_pos t))
