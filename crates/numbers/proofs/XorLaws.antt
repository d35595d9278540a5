-- Laws of exclusive or, by halves and parities.
use mathlib.Core.Path.{◌≡◌, refl, sym, ap, ap₂, ◌∙◌}
use Prim.Native.Nat.{ℕ, zero, suc, ◌+◌, ◌*◌, ◌/◌, ◌%◌, ◌^◌, ◌<◌}
use native.Mathlib.Nat.{pow-suc, mod-eq_of_lt}
use native.Mathlib.Omega.{arith}
use lib.Arith.{bin_ind}
use lib.Bits as Bits
use lib.Bits.{differ}
use Rattle.numbers.specs.Modulo.{xor}
use Rattle.numbers.proofs.Cong.{Cong, cong_eq, cong_add, cong_refl, cong_sym, via, ◌⨾◌}

pub xor_comm : (a b : ℕ) → xor a b ≡ xor b a
unfolding xor
xor_comm a b = Bits.xor_comm a b

pub xor_self : (a : ℕ) → xor a a ≡ 0
unfolding xor
xor_self a = Bits.xor_self a

pub xor_zero : (a : ℕ) → xor a 0 ≡ a
unfolding xor
xor_zero a = Bits.xor_zero_r a

pub zero_xor : (a : ℕ) → xor 0 a ≡ a
unfolding xor
zero_xor a = Bits.xor_zero_l a

pub xor_below : (k a b : ℕ) → a < 2 ^ k → b < 2 ^ k → xor a b < 2 ^ k
unfolding xor
xor_below k a b p r = Bits.xor_lt k a b p r

pub xor_half : (a b : ℕ) → xor a b / 2 ≡ xor (a / 2) (b / 2)
unfolding xor
xor_half a b = Bits.xor_shr a b 1

-- two numbers are equal if their halves and their parities are
pub by_digits : (a b : ℕ) → a / 2 ≡ b / 2 → a % 2 ≡ b % 2 → a ≡ b
by_digits a b p r = omega arith

differ_bits : (x y : ℕ) → x < 2 → y < 2 → differ x y ≡ (x + y) % 2
differ_bits zero y p r = omega arith
differ_bits (suc zero) zero p r = refl
differ_bits (suc zero) (suc zero) p r = refl
differ_bits (suc zero) (suc (suc y)) p r = absurd (omega arith)
differ_bits (suc (suc x)) y p r = absurd (omega arith)

-- the parity of an exclusive or is that of the sum
pub xor_odd : (a b : ℕ) → Cong 2 (xor a b) (a + b)
unfolding xor
xor_odd a b = record { eq = omega (arith, Bits.xor_step a b, differ_bits (a % 2) (b % 2) (omega arith) (omega arith)) }

assoc_odd : (a b c : ℕ) → Cong 2 (xor (xor a b) c) (xor a (xor b c))
assoc_odd a b c =
    via (a + b + c) (xor_odd (xor a b) c ⨾ cong_add (xor_odd a b) cong_refl)
    (cong_eq (omega arith) ⨾ cong_sym (xor_odd a (xor b c) ⨾ cong_add cong_refl (xor_odd b c)))

pub xor_assoc : (a b c : ℕ) → xor (xor a b) c ≡ xor a (xor b c)
xor_assoc a =
    bin_ind (λ (n : ℕ). (b c : ℕ) → xor (xor n b) c ≡ xor n (xor b c))
    (λ b c. ap (λ (x : ℕ). xor x c) (zero_xor b) ∙ sym (zero_xor (xor b c)))
    (λ n ih b c. by_digits (xor (xor n b) c) (xor n (xor b c))
    (simp xor_half (ih (b / 2) (c / 2)))
    (assoc_odd n b c).eq) a

-- of two bits
pub xor_bit : (x y : ℕ) → xor (x % 2) (y % 2) ≡ (x + y) % 2
xor_bit x y =
    sym (mod-eq_of_lt (xor_below 1 (x % 2) (y % 2) (omega arith) (omega arith))) ∙ (xor_odd (x % 2) (y % 2)).eq ∙ omega arith

-- of two numbers that are in two parts, the lower below 2^b
pub xor_parts : (b x y u v : ℕ) → x < 2 ^ b → y < 2 ^ b → xor (x + 2 ^ b * u) (y + 2 ^ b * v) ≡ xor x y + 2 ^ b * xor u v
xor_parts zero x y u v hx hy =
    let ex : x ≡ 0 = omega arith in
    let ey : y ≡ 0 = omega arith in
    let ez : xor 0 0 ≡ 0 = xor_self 0 in
    rw (ex, ey, ez) (ap₂ xor (one u) (one v) ∙ sym (one (xor u v)))
  where
    one : (z : ℕ) → 0 + 2 ^ 0 * z ≡ z
    one z = omega arith
xor_parts (suc b) x y u v hx hy =
    by_digits (xor (x + 2 ^ suc b * u) (y + 2 ^ suc b * v)) (xor x y + 2 ^ suc b * xor u v)
    (xor_half (x + 2 ^ suc b * u) (y + 2 ^ suc b * v) ∙ ap₂ xor (half x u) (half y v)
    ∙ xor_parts b (x / 2) (y / 2) u v (under x hx) (under y hy)
    ∙ ap (λ (z : ℕ). z + 2 ^ b * xor u v) (sym (xor_half x y)) ∙ sym (half (xor x y) (xor u v)))
    ((xor_odd (x + 2 ^ suc b * u) (y + 2 ^ suc b * v)).eq ∙ odd ∙ sym (low (xor x y) (xor u v) ∙ (xor_odd x y).eq))
  where
    half : (z w : ℕ) → (z + 2 ^ suc b * w) / 2 ≡ z / 2 + 2 ^ b * w
    half z w = rw pow-suc (omega arith)

    under : (z : ℕ) → z < 2 ^ suc b → z / 2 < 2 ^ b
    under z h = omega (arith, pow-suc 2 b)

    low : (z w : ℕ) → (z + 2 ^ suc b * w) % 2 ≡ z % 2
    low z w = rw pow-suc (omega arith)

    odd : (x + 2 ^ suc b * u + (y + 2 ^ suc b * v)) % 2 ≡ (x + y) % 2
    odd = rw pow-suc (omega arith)
