-- Laws of the steps before the carries and after them, as the code makes them.
use mathlib.Core.Path.{◌≡◌, sym, ap, subst}
use Prim.Native.Nat.{ℕ, ◌+◌, ◌-◌, ◌*◌, ◌/◌, ◌%◌, ◌^◌, ◌≤◌, ◌<◌}
use native.Mathlib.Nat.{add_comm, mod-lt, mul-one, mul-le-mul_right, mul-le-mul_left}
use native.Mathlib.Omega.{arith}
use lib.Pow.{pow_mono, shr_lt}
use Rattle.numbers.specs.Modulo.{sub_mod}
use Rattle.numbers.proofs.Cong.{cong_by, cong_mod, cong_refl, cong_add, ◌⨾◌}
use Rattle.numbers.proofs.GroupLaws.{sub_only}

-- ---- x − 2^k·e mod m, as x + 2^k·(m − e)
pub less_fits : {k p x m : ℕ} (e : ℕ) → k ≤ 31 → p ≡ 2 ^ k → x < 2 ^ 32 → m < 2 ^ 32 → x + p * (m - e) < 2 ^ 64
less_fits {k} {p} {x} {m} e h f hx hm =
    let l : p ≤ 2 ^ 31 = rw f (pow_mono h) in
    omega (arith, mul-le-mul_right (m - e) l)

pub less_is : (c x e m : ℕ) → e < m → (x + c * (m - e)) % m ≡ sub_mod m x (c * e)
less_is c x e m h = sub_only (c * e) (mod-lt _ (omega arith)) (cong_add cong_mod cong_refl ⨾ cong_by 0 c (all (m - e) (omega arith)))
  where
    all : (w : ℕ) → w + e ≡ m → x + c * w + c * e + 0 * m ≡ x + c * m
    all w f = rw (← f) (omega arith)

-- ---- the floors of a conversion to mod Q stay below 2^α
pub quotient_small : (μ α : ℕ) {Q : ℕ} → 2 ≤ Q → (x : ℕ) → x < 2 ^ (μ + α) → x / 2 ^ μ < 2 ^ α * Q
quotient_small μ α two x h =
    let l : x / 2 ^ μ < 2 ^ α = shr_lt α μ (subst (λ (k : ℕ). x < 2 ^ k) (add_comm μ α) h) in
    omega (arith, mul-le-mul_left (2 ^ α) two)

pub quotient_is : (μ x : ℕ) → x / 2 ^ μ ≡ x * 1 / 2 ^ μ
quotient_is μ x = ap (λ (y : ℕ). y / 2 ^ μ) (sym (mul-one x))
