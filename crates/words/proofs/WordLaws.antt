-- What one comparison and one subtraction give, on words below m; a shifted 1; and a remainder by digits.
use mathlib.Core.Path.{◌≡◌, sym, ap, subst, ◌∙◌}
use Prim.Native.Nat.{ℕ, suc, ◌+◌, ◌-◌, ◌*◌, ◌/◌, ◌%◌, ◌^◌, ◌≤◌, ◌<◌}
use native.Mathlib.Nat.{mod-eq_of_lt, add-mod_right, one-mul, zero-add, zero-mod, mod-lt, div-one, div-eq_of_lt, div-div-eq-div-mul, pow-suc}
use native.Mathlib.Numerals.{one-add}
use native.Mathlib.Omega.{arith}
use lib.Dec.{lit<}
use lib.Pow.{shl_exact}
use Rattle.numbers.specs.Modulo.{add_mod, sub_mod, neg_mod}
use Rattle.numbers.proofs.Cong.{cong_eq, cong_mod, cong_refl, cong_add, via, ◌⨾◌}

-- r is x less m once
once : {m r : ℕ} (x : ℕ) → r < m → x ≡ r + m → r ≡ x % m
once {m} {r} x h e = sym (ap (λ (y : ℕ). y % m) e ∙ add-mod_right r m ∙ mod-eq_of_lt h)

module _ {m a b : ℕ} (h : a < m) (l : b < m) where
  pub add_low : a < m - b → a + b ≡ add_mod m a b
  unfolding add_mod
  add_low k = sym (mod-eq_of_lt (omega arith))

  pub add_high : m - b ≤ a → a - (m - b) ≡ add_mod m a b
  unfolding add_mod
  add_high k = once (a + b) (omega arith) (omega arith)

  pub sub_low : b ≤ a → a - b ≡ sub_mod m a b
  unfolding sub_mod
  sub_low k = rw (mod-eq_of_lt l) (once (a + (m - b)) (omega arith) (omega arith))

  pub sub_high : a < b → a + (m - b) ≡ sub_mod m a b
  unfolding sub_mod
  sub_high k = rw (mod-eq_of_lt l) (sym (mod-eq_of_lt (omega arith)))

pub neg_none : (m a : ℕ) → a < m → a ≡ 0 → 0 ≡ neg_mod m a
unfolding neg_mod
neg_none m a h e = rw e (sub_low {m = m} {a = 0} {b = 0} (omega arith) (omega arith) (omega arith))

pub neg_some : {m a : ℕ} → a < m → 0 < a → m - a ≡ neg_mod m a
unfolding neg_mod
neg_some {m} {a} h k = sym (zero-add (m - a)) ∙ sub_high (omega arith) h k

-- `1 << k` at w bits, which the machine has as a product cut to w bits, is 2 ^ k
pub one_shl : (w k : ℕ) → k < w → 1 * 2 ^ k % 2 ^ w ≡ 2 ^ k
one_shl w k h = shl_exact {a = 1} 1 k w (lit< tt) (subst (λ (x : ℕ). x ≤ w) (sym (one-add k)) h) ∙ one-mul (2 ^ k)

-- ---- a remainder by its binary digits, from the top: the digits of x before the last 64 - i have been taken
pub record Digits (x m i r : ℕ) : Type 0 where
  pub most : i ≤ 64
  pub is : r ≡ x / 2 ^ (64 - i) % m

pub digits_start : (x m : ℕ) → x < 2 ^ 64 → Digits x m 0 0
digits_start x m h = record { most = omega arith; is = sym (ap (λ (y : ℕ). y % m) (div-eq_of_lt h) ∙ zero-mod m) }

-- the next digit of y is its parity
next_digit : (m y : ℕ) → add_mod m (add_mod m (y / 2 % m) (y / 2 % m)) (y % 2) ≡ y % m
unfolding add_mod
next_digit m y = (via {c = y} (y / 2 + y / 2 + y % 2) (cong_add (cong_mod ⨾ cong_add cong_mod cong_mod) cong_refl) (cong_eq (omega arith))).eq

module _ {x m i r : ℕ} (a : Digits x m i r) where
  pub digits_below : 0 < m → r < m
  digits_below h = rw a.is (mod-lt (x / 2 ^ (64 - i)) h)

  pub digits_more : i < 64 → {s v : ℕ} → s ≡ add_mod m r r → v ≡ add_mod m s (x / 2 ^ (63 - i) % 2) → Digits x m (i + 1) v
  digits_more h e f =
      let y : ℕ = x / 2 ^ (63 - i) in
      let one : 64 - i ≡ suc (63 - i) = omega arith in
      let half : x / 2 ^ (64 - i) ≡ y / 2 = ap (λ (k : ℕ). x / 2 ^ k) one ∙ ap (λ (k : ℕ). x / k) (pow-suc 2 (63 - i)) ∙ sym (div-div-eq-div-mul x (2 ^ (63 - i)) 2) in
      let rest : 63 - i ≡ 64 - (i + 1) = omega arith in
      record {
        most = omega arith;
        is =
            f ∙ ap (λ (s : ℕ). add_mod m s (y % 2)) e ∙ ap (λ (s : ℕ). add_mod m (add_mod m s s) (y % 2)) (a.is ∙ ap (λ (z : ℕ). z % m) half)
            ∙ next_digit m y ∙ ap (λ (k : ℕ). x / 2 ^ k % m) rest;
      }

  pub digits_all : 64 ≤ i → r ≡ x % m
  digits_all h =
      let none : 64 - i ≡ 0 = omega arith in
      a.is ∙ ap (λ (k : ℕ). x / 2 ^ k % m) none ∙ ap (λ (y : ℕ). y % m) (div-one x)
