-- Ψ(x,u) + u is x ⊕ u modulo 2^k, and Ψ is affine in u over exclusive or: by binary digits. With a borrow c, the lowest digit of
-- (x ⊕ u) − u − c is x ⊕ c, and the next borrow is u's digit where x's is 1 and c where it is 0: both are affine in (u, c).
use mathlib.Core.Path.{◌≡◌, refl, sym, ap, ap₂, subst, ◌∙◌}
use Prim.Native.Nat.{ℕ, zero, suc, ◌+◌, ◌-◌, ◌*◌, ◌/◌, ◌%◌, ◌^◌, ◌≤◌, ◌<◌}
use native.Mathlib.Nat.{pow-suc, mod-add-mod, add-mod}
use native.Mathlib.Omega.{arith}
use lib.Arith.{lt-one}
use lib.Pow.{pow_pos, pow-add}
use Rattle.numbers.specs.Modulo.{sub_mod, xor}
use Rattle.numbers.proofs.Cong.{Cong, cong_by, cong_out, cong_eq, cong_mod, cong_add, cong_refl, cong_sym, cong_cancel, cong_small, cong_part, via, ◌⨾◌}
use Rattle.numbers.proofs.XorLaws.{xor_zero, xor_half, xor_odd, by_digits}
use Rattle.numbers.proofs.GroupLaws.{sub_back, sub_only}
use Rattle.rules.specs.Psi.{psi}
use Rattle.rules.proofs.ListLaws.{psi_below}

-- ---- x ⊕ u = Ψ(x,u) + u mod 2^k
pub psi-add : (k x u : ℕ) → k ≤ 32 → Cong (2 ^ k) (psi k x u + u) (xor x u)
unfolding psi
psi-add k x u h =
    let j : ℕ = 32 - k in
    let parts : 32 ≡ j + k = omega arith in
    let whole : 2 ^ 32 ≡ 2 ^ j * 2 ^ k = ap (λ (n : ℕ). 2 ^ n) parts ∙ pow-add 2 j k in
    cong_add cong_mod cong_refl ⨾ cong_part (2 ^ j) (subst (λ (M : ℕ). Cong M (sub_mod (2 ^ 32) (xor x u) u + u) (xor x u)) whole (sub_back (2 ^ 32) (xor x u) u (pow_pos 32)))

-- the difference modulo 2^32 cut to k bits is the difference modulo 2^k
pub psi_cut : (k x u : ℕ) → k ≤ 32 → psi k x u ≡ sub_mod (2 ^ k) (xor x u) u
psi_cut k x u h = sub_only u (psi_below k x u) (psi-add k x u h)

-- ---- digit by digit
-- the next borrow
abbrev borrow : ℕ → ℕ → ℕ → ℕ
borrow zero u c = c
borrow (suc x) u c = u

-- (x ⊕ u) − u − c
unfoldable digits : ℕ → ℕ → ℕ → ℕ → ℕ
digits zero c x u = 0
digits (suc k) c x u = digits k (borrow (x % 2) (u % 2) c) (x / 2) (u / 2) * 2 + (x + c) % 2

digits_below : (k c x u : ℕ) → digits k c x u < 2 ^ k
unfolding digits
digits_below zero c x u = omega arith
digits_below (suc k) c x u = rw pow-suc (omega (arith, digits_below k (borrow (x % 2) (u % 2) c) (x / 2) (u / 2)))

borrow_bit : (x u c : ℕ) → u < 2 → c < 2 → borrow x u c < 2
borrow_bit zero u c hu hc = hc
borrow_bit (suc x) u c hu hc = hu

-- the digits of the sum, at one place
column_bits : (x u c : ℕ) → x < 2 → u < 2 → c < 2 → (x + c) % 2 + u + c ≡ 2 * borrow x u c + (x + u) % 2
column_bits zero u c hx hu hc = omega arith
column_bits (suc x) u c hx hu hc = omega arith

column : (x u c : ℕ) → c < 2 → (x + c) % 2 + u % 2 + c ≡ 2 * borrow (x % 2) (u % 2) c + (x + u) % 2
column x u c hc =
    ap (λ (w : ℕ). w + u % 2 + c) (sym (mod-add-mod x 2 c))
    ∙ column_bits (x % 2) (u % 2) c (omega arith) (omega arith) hc
    ∙ ap (λ (w : ℕ). 2 * borrow (x % 2) (u % 2) c + w) (sym (add-mod x u 2))

carry : (P D W a b h q s y z c p X : ℕ) → D + h + p + a * P ≡ W + b * P → X ≡ W * 2 + z → s + q + c ≡ 2 * p + z → y ≡ h * 2 + q →
    D * 2 + s + y + c + a * (P * 2) ≡ X + b * (P * 2)
carry P D W a b h q s y z c p X e x col y2 = omega arith

xor_digits : (x u : ℕ) → xor x u ≡ xor (x / 2) (u / 2) * 2 + (x + u) % 2
xor_digits x u = omega (arith, xor_half x u, (xor_odd x u).eq)

digits_sum : (k c x u : ℕ) → c < 2 → Cong (2 ^ k) (digits k c x u + u + c) (xor x u)
unfolding digits
digits_sum zero c x u hc = cong_by (xor x u) (0 + u + c) (omega arith)
digits_sum (suc k) c x u hc =
    let p : ℕ = borrow (x % 2) (u % 2) c in
    let D : ℕ = digits k p (x / 2) (u / 2) in
    let W : ℕ = xor (x / 2) (u / 2) in
    rw pow-suc
    (cong_by (W / 2 ^ k) ((D + u / 2 + p) / 2 ^ k)
    (carry (2 ^ k) D W (W / 2 ^ k) ((D + u / 2 + p) / 2 ^ k) (u / 2) (u % 2) ((x + c) % 2) u ((x + u) % 2) c p (xor x u)
    (cong_out (digits_sum k p (x / 2) (u / 2) (borrow_bit (x % 2) (u % 2) c (omega arith) hc)))
    (xor_digits x u) (column x u c hc) (omega arith)))

psi_digits : (k x u : ℕ) → k ≤ 32 → psi k x u ≡ digits k 0 x u
psi_digits k x u h =
    cong_small (psi_below k x u) (digits_below k 0 x u) (cong_cancel u (psi-add k x u h ⨾ (cong_sym (digits_sum k 0 x u (omega arith)) ⨾ cong_eq (omega arith))))

-- ---- affine
digits_half : (k c x u : ℕ) → digits (suc k) c x u / 2 ≡ digits k (borrow (x % 2) (u % 2) c) (x / 2) (u / 2)
unfolding digits
digits_half k c x u = omega arith

digits_odd : (k c x u : ℕ) → Cong 2 (digits (suc k) c x u) (x + c)
unfolding digits
digits_odd k c x u = cong_by ((x + c) / 2) (digits k (borrow (x % 2) (u % 2) c) (x / 2) (u / 2)) (omega arith)

borrow_affine : (b u v c e : ℕ) → borrow b (xor u v % 2) ((c + e) % 2) ≡ (borrow b (u % 2) c + borrow b (v % 2) e) % 2
borrow_affine zero u v c e = refl
borrow_affine (suc b) u v c e = (xor_odd u v).eq ∙ add-mod u v 2

affine_odd : (k c e x u v : ℕ) → Cong 2 (digits (suc k) ((c + e) % 2) x (xor u v)) (xor x (xor (digits (suc k) c x u) (digits (suc k) e x v)))
affine_odd k c e x u v =
    via (x + (c + e)) (digits_odd k ((c + e) % 2) x (xor u v) ⨾ cong_add cong_refl cong_mod)
    (via (x + (x + c + (x + e))) (cong_by x 0 (omega arith))
    (cong_sym (xor_odd x (xor (digits (suc k) c x u) (digits (suc k) e x v))
    ⨾ cong_add cong_refl (xor_odd (digits (suc k) c x u) (digits (suc k) e x v) ⨾ cong_add (digits_odd k c x u) (digits_odd k e x v)))))

digits_affine : (k c e x u v : ℕ) → c < 2 → e < 2 → x < 2 ^ k → digits k ((c + e) % 2) x (xor u v) ≡ xor x (xor (digits k c x u) (digits k e x v))
unfolding digits
digits_affine zero c e x u v hc he hx = sym (ap (xor x) (xor_zero 0) ∙ xor_zero x ∙ lt-one hx)
digits_affine (suc k) c e x u v hc he hx =
    by_digits (digits (suc k) ((c + e) % 2) x (xor u v)) (xor x (xor (digits (suc k) c x u) (digits (suc k) e x v)))
    (digits_half k ((c + e) % 2) x (xor u v)
    ∙ ap₂ (λ (p w : ℕ). digits k p (x / 2) w) (borrow_affine (x % 2) u v c e) (xor_half u v)
    ∙ digits_affine k (borrow (x % 2) (u % 2) c) (borrow (x % 2) (v % 2) e) (x / 2) (u / 2) (v / 2)
    (borrow_bit (x % 2) (u % 2) c (omega arith) hc) (borrow_bit (x % 2) (v % 2) e (omega arith) he) (omega (arith, rw pow-suc at hx))
    ∙ sym (xor_half x (xor (digits (suc k) c x u) (digits (suc k) e x v))
    ∙ ap (xor (x / 2)) (xor_half (digits (suc k) c x u) (digits (suc k) e x v)
    ∙ ap₂ xor (digits_half k c x u) (digits_half k e x v))))
    (affine_odd k c e x u v).eq

pub psi_affine : (k x u v : ℕ) → k ≤ 32 → x < 2 ^ k → psi k x (xor u v) ≡ xor x (xor (psi k x u) (psi k x v))
psi_affine k x u v h hx =
    psi_digits k x (xor u v) h ∙ digits_affine k 0 0 x u v (omega arith) (omega arith) hx
    ∙ sym (ap₂ (λ (a b : ℕ). xor x (xor a b)) (psi_digits k x u h) (psi_digits k x v h))
