-- The sides of a signed number within the reach: the left one is zero exactly from the bound on, the right one exactly from its negation down; so
-- their product is zero modulo q exactly where the size is not below the bound.
use mathlib.Core.Path.{◌≡◌, refl, sym, ap, subst, ◌∙◌}
use mathlib.Core.Logic.{◌≢◌, ◌⊎◌, inl, inr}
use mathlib.Core.Bool.{true, false}
use Prim.Native.Nat.{ℕ, zero, suc, ◌+◌, ◌-◌, ◌*◌, ◌/◌, ◌%◌, ◌^◌, ◌≤◌, ◌<◌}
use native.Mathlib.Nat.{zero-mod, mod-eq_of_lt, div-eq_of_lt, le-div_iff_mul-le, div-lt_iff_lt-mul, mul_comm, mul-le-mul_right}
use native.Mathlib.Decide.{dec_le}
use native.Mathlib.Omega.{arith}
use lib.Pow.{pow_pos, pow_mono}
use lib.Dec.{leb→le, le→leb}
use lib.IntN.{ℤ, pos, negsuc, nat_abs, neg_ℤ, ◌-ℤ◌}
use lib.Signed.{◌≤ℤ◌, le_z_yes}
use borrow.Author.Tests.{ltb-true, ltb-false}
use Rattle.numbers.specs.Modulo.{q, neg_mod}
use Rattle.numbers.specs.Centred.{residue}
use Rattle.numbers.proofs.Cong.{cong_by, cong_eq}
use Rattle.numbers.proofs.GroupLaws.{sub_only}
use Rattle.numbers.proofs.PrimeLaws.{q_prime, zero_factor, zero_product}
use Rattle.numbers.proofs.CentredLaws.{less-over, less_under, residue_below, residue-less}
use Rattle.params.specs.declared.Bounds.{Bounds}
use Rattle.params.specs.Laws.{KindLaws}
use Rattle.params.proofs.RoomLaws.{rho_most, wraps_least}
use Rattle.sizes.specs.Widening.{wide}
use Rattle.sizes.proofs.WideningSteps.{wide_least}
use Rattle.sizes.specs.Plain.{accepted, side_of, left_of, right_of}

-- where a number stands to the bound
module _ {a : ℕ} where
  not_from : (z : ℤ) → nat_abs z < a → ¬ (pos a ≤ℤ z)
  not_from (pos v) h l = let bounds = leb→le a v l.le in omega arith
  not_from (negsuc v) h l = l.le

  from_either : (z : ℤ) → a ≤ nat_abs z → (pos a ≤ℤ z) ⊎ (pos a ≤ℤ neg_ℤ z)
  from_either (pos v) h = inl (le_z_yes (le→leb a v h))
  from_either (negsuc v) h = inr (le_z_yes (le→leb a (suc v) h))

size_negated : (z : ℤ) → nat_abs (neg_ℤ z) ≡ nat_abs z
size_negated (pos zero) = refl
size_negated (pos (suc v)) = refl
size_negated (negsuc v) = refl

-- the residue of a negative number
below_zero : (M c : ℕ) → 0 < c → c ≤ M → neg_mod M c ≡ M - c
unfolding neg_mod
below_zero M c some most = sym (sub_only c (omega arith) (cong_by 0 1 (omega arith)))

module _ {bounds : Bounds} (h : KindLaws bounds) where
  wraps : ℕ
  wraps = 2 ^ bounds.rho

  -- there is room for a, b and 2^ρ in 2^ρ·q
  room : bounds.a + bounds.b + wraps ≤ wide bounds
  unfolding wraps
  room =
      let few : 2 ^ bounds.rho ≤ 2 ^ 9 = pow_mono (rho_most h) in
      omega (arith, mul-le-mul_right q (wraps_least h), h.order, h.quarter)

  past_bound : {v : ℕ} → bounds.a ≤ v → v ≤ bounds.b → v - bounds.a < wraps
  unfolding wraps
  past_bound e l = omega (arith, h.past)

  -- z − a is in 0 .. 2^ρ − 1, or is a negative number whose residue is at least 2^ρ
  side_none : (z : ℤ) (r : ℕ) → residue (wide bounds) (z -ℤ pos bounds.a) ≡ r → r < wraps → side_of bounds z ≡ 0
  unfolding side_of wraps
  side_none z r e l = ap (λ (x : ℕ). x / 2 ^ bounds.rho) e ∙ div-eq_of_lt l

  side_some : (z : ℤ) (r : ℕ) → residue (wide bounds) (z -ℤ pos bounds.a) ≡ r → wraps ≤ r → 0 < side_of bounds z
  unfolding side_of wraps
  side_some z r e l = rw e ((le-div_iff_mul-le (pow_pos bounds.rho)).1 (omega arith))

  -- from the bound on, and before it
  data Side (z : ℤ) : Type 0 where
    from : pos bounds.a ≤ℤ z → side_of bounds z ≡ 0 → Side z
    before : ¬ (pos bounds.a ≤ℤ z) → 0 < side_of bounds z → Side z

  side : (z : ℤ) → nat_abs z ≤ bounds.b → Side z
  unfolding residue
  side (pos v) l = go (dec_le bounds.a v)
    where
      go : Dec (bounds.a ≤ v) → Side (pos v)
      go (yes e) =
          from (le_z_yes (le→leb bounds.a v e))
          (side_none (pos v) (v - bounds.a) (ap (residue (wide bounds)) (less-over v bounds.a e) ∙ mod-eq_of_lt (omega (arith, room))) (past_bound e l))
      go (no n) =
          let c : suc (bounds.a - suc v) ≡ bounds.a - v = omega arith in
          before (λ f. n (leb→le bounds.a v f.le))
          (side_some (pos v) (wide bounds - (bounds.a - v)) (ap (residue (wide bounds)) (less_under v bounds.a (omega arith)) ∙ rw c (below_zero (wide bounds) (bounds.a - v) (omega arith) (omega (arith, room)))) (omega (arith, room)))
  side (negsuc v) l =
      before (λ f. f.le)
      (side_some (negsuc v) (wide bounds - (suc v + bounds.a)) (residue-less (wide bounds) (omega (arith, wide_least h)) (negsuc v) bounds.a
      ∙ sym (sub_only bounds.a (omega (arith, room)) (cong_eq (rw (below_zero (wide bounds) (suc v) (omega arith) (omega (arith, room))) (omega (arith, room)))))) (omega (arith, room)))

  zero_from : (z : ℤ) → nat_abs z ≤ bounds.b → (side_of bounds z ≡ 0 → pos bounds.a ≤ℤ z) × (pos bounds.a ≤ℤ z → side_of bounds z ≡ 0)
  zero_from z l = go (side z l)
    where
      go : Side z → (side_of bounds z ≡ 0 → pos bounds.a ≤ℤ z) × (pos bounds.a ≤ℤ z → side_of bounds z ≡ 0)
      go (from f e) = (λ x. f, λ x. e)
      go (before n e) = (λ x. absurd (omega arith), λ f. absurd (n f))

  -- a side is below q
  pub side_below : (z : ℤ) → side_of bounds z < q
  unfolding side_of
  side_below z =
      (div-lt_iff_lt-mul {k = 2 ^ bounds.rho} {x = residue (wide bounds) (z -ℤ pos bounds.a)} {y = q} (pow_pos bounds.rho)).1
      (omega (arith, residue_below (wide bounds) (omega (arith, wide_least h)) (z -ℤ pos bounds.a), mul_comm q (2 ^ bounds.rho)))

  module _ (z : ℤ) (within : nat_abs z ≤ bounds.b) where
    -- the left side is zero exactly where z ≥ a
    pub left_zero : (left_of bounds z ≡ 0 → pos bounds.a ≤ℤ z) × (pos bounds.a ≤ℤ z → left_of bounds z ≡ 0)
    unfolding left_of
    left_zero = zero_from z within

    -- and the right side exactly where −z ≥ a
    pub right_zero : (right_of bounds z ≡ 0 → pos bounds.a ≤ℤ neg_ℤ z) × (pos bounds.a ≤ℤ neg_ℤ z → right_of bounds z ≡ 0)
    unfolding right_of
    right_zero = zero_from (neg_ℤ z) (subst (λ (s : ℕ). s ≤ bounds.b) (sym (size_negated z)) within)

    -- so a product of the two is zero modulo q where the size is not below a
    pub rejected_zero : accepted bounds z ≡ false → (left_of bounds z * right_of bounds z) % q ≡ 0
    unfolding accepted
    rejected_zero e = go (from_either z (ltb-false (nat_abs z) bounds.a e))
      where
        go : (pos bounds.a ≤ℤ z) ⊎ (pos bounds.a ≤ℤ neg_ℤ z) → (left_of bounds z * right_of bounds z) % q ≡ 0
        go (inl l) = zero_product q (left_of bounds z) (right_of bounds z) (inl (ap (λ (x : ℕ). x % q) (left_zero.1 l) ∙ zero-mod q))
        go (inr l) = zero_product q (left_of bounds z) (right_of bounds z) (inr (ap (λ (x : ℕ). x % q) (right_zero.1 l) ∙ zero-mod q))

    -- and nowhere else, since q is prime
    pub accepted_not_zero : accepted bounds z ≡ true → (left_of bounds z * right_of bounds z) % q ≢ 0
    unfolding accepted left_of right_of
    accepted_not_zero e zero_product = go (zero_factor q_prime (left_of bounds z) (right_of bounds z) zero_product)
      where
        small : nat_abs z < bounds.a
        small = ltb-true (nat_abs z) bounds.a e

        go : (left_of bounds z % q ≡ 0) ⊎ (right_of bounds z % q ≡ 0) → ⊥
        go (inl f) = not_from z small (left_zero.0 (sym (mod-eq_of_lt (side_below z)) ∙ f))
        go (inr f) = not_from (neg_ℤ z) (subst (λ (s : ℕ). s < bounds.a) (sym (size_negated z)) small) (right_zero.0 (sym (mod-eq_of_lt (side_below (neg_ℤ z))) ∙ f))
