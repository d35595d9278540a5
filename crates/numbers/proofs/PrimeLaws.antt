-- A factor of a prime's residues that is not zero can be divided by; and q is prime.
use mathlib.Core.Path.{◌≡◌, sym, ap, ◌∙◌}
use mathlib.Core.Logic.{◌≢◌, ◌⊎◌, inl, inr}
use mathlib.Core.Bool.{Bool, true, false}
use Prim.Native.Nat.{ℕ, zero, suc, ◌+◌, ◌-◌, ◌*◌, ◌/◌, ◌%◌, ◌≤◌, ◌<◌}
use native.Mathlib.Nat.{div-add-mod', mod-lt, mod-eq_of_lt, mul-mod_right, zero-mod, zero-mul, mul-zero, div-le_self, eq-or-lt_of_le, lt_of_mul-lt-mul_right, lt_of_mul-lt-mul_left, mul-le-mul_left}
use native.Mathlib.Decide.{ℕ_discrete, dec_lt}
use native.Mathlib.Omega.{arith}
use lib.Dec.{T, eqb, lit<}
use Rattle.numbers.specs.Modulo.{q}
use Rattle.numbers.specs.Prime.{Prime, OneFactor}
use Rattle.numbers.proofs.Cong.{Cong, cong_by, cong_eq, cong_mod, cong_mul, cong_refl, cong_sym, cong_small, via, ◌⨾◌}

-- p = t·a + r, w = −t and r·s = 1 modulo p give a·w·s = 1
descend : (p a t w r s : ℕ) → t * a + r ≡ p → w + t ≡ p → Cong p (r * s) 1 → Cong p (a * (w * s)) 1
descend p a t w r s e f c =
    via (r * s) (cong_by s (a * s) (omega (arith, ap (λ (z : ℕ). a * z * s) f, ap (λ (z : ℕ). z * s) e))) c

-- a product is zero where a factor is, modulo any number
pub zero_product : (p a b : ℕ) → (a % p ≡ 0) ⊎ (b % p ≡ 0) → (a * b) % p ≡ 0
zero_product p a b (inl e) = (cong_mul {b = 0} {d = b} (record { eq = e ∙ sym (zero-mod p) }) cong_refl).eq ∙ ap (λ (x : ℕ). x % p) (zero-mul b) ∙ zero-mod p
zero_product p a b (inr e) = (cong_mul {b = a} {d = 0} cong_refl (record { eq = e ∙ sym (zero-mod p) })).eq ∙ ap (λ (x : ℕ). x % p) (mul-zero a) ∙ zero-mod p

module _ {p : ℕ} (prime : Prime p) where
  -- an inverse of a, for 0 < a < p: by that of p mod a, which is less
  inverse : (fuel a : ℕ) → a ≤ fuel → 0 < a → a < p → (s : ℕ) × Cong p (a * s) 1
  inverse zero a h ha hp = absurd (omega arith)
  inverse (suc f) a h ha hp = go (ℕ_discrete a 1) (λ l r0. inverse f (p % a) l r0 (omega (arith, mod-lt p ha)))
    where
      go : Dec (a ≡ 1) → (p % a ≤ f → 0 < p % a → (s : ℕ) × Cong p (p % a * s) 1) → (s : ℕ) × Cong p (a * s) 1
      go (yes e) rec = (1, cong_eq (omega arith))
      go (no ne) rec =
          let nd : p % a ≢ 0 = prime.undivided a (omega arith) hp in
          let (s, c) = rec (omega (arith, mod-lt p ha)) (omega arith) in
          ((p - p / a) * s, descend p a (p / a) (p - p / a) (p % a) s (div-add-mod' p a) (omega (arith, div-le_self p a)) c)

  -- of any number that p does not divide
  inv : (a : ℕ) → a % p ≢ 0 → (s : ℕ) × Cong p (a * s) 1
  inv a h =
      let l : a % p < p = mod-lt a (omega (arith, prime.more)) in
      let (s, c) = inverse p (a % p) (omega arith) (omega arith) l in
      (s, cong_mul (cong_sym cong_mod) cong_refl ⨾ c)

  -- a factor that is not zero goes
  cancel : (a b c : ℕ) → a % p ≢ 0 → Cong p (a * b) (a * c) → Cong p b c
  cancel a b c h e =
      let (s, i) = inv a h in
      let one : (x : ℕ) → Cong p (s * (a * x)) x = λ x. via (a * s * x) (cong_eq (omega arith)) (cong_mul i cong_refl ⨾ cong_eq (omega arith)) in
      cong_sym (one b) ⨾ cong_mul (cong_refl {a = s}) e ⨾ one c

  -- a product is zero only where a factor is
  pub zero_factor : (a b : ℕ) → (a * b) % p ≡ 0 → (a % p ≡ 0) ⊎ (b % p ≡ 0)
  zero_factor a b e = go (ℕ_discrete (a % p) 0)
    where
      go : Dec (a % p ≡ 0) → (a % p ≡ 0) ⊎ (b % p ≡ 0)
      go (yes z) = inl z
      go (no n) = inr ((cancel a b 0 n (via 0 (record { eq = e ∙ sym (zero-mod p) }) (cong_eq (omega arith)))).eq ∙ zero-mod p)

  -- so it is zero exactly there
  pub zero_exactly : (a b : ℕ) → ((a * b) % p ≡ 0 → (a % p ≡ 0) ⊎ (b % p ≡ 0)) × ((a % p ≡ 0) ⊎ (b % p ≡ 0) → (a * b) % p ≡ 0)
  zero_exactly a b = (zero_factor a b, zero_product p a b)

  -- and a product of factors that are not zero is not
  pub no_zero : (a b : ℕ) → a % p ≢ 0 → b % p ≢ 0 → (a * b) % p ≢ 0
  no_zero a b ha hb e = go (zero_factor a b e)
    where
      go : (a % p ≡ 0) ⊎ (b % p ≡ 0) → ⊥
      go (inl z) = ha z
      go (inr z) = hb z

  -- every residue that is not zero reaches every such residue by exactly one factor that is not zero
  pub one_factor : (a c : ℕ) → a % p ≢ 0 → c < p → c ≢ 0 → OneFactor p a c
  one_factor a c ha hc nc =
      let (s, i) = inv a ha in
      let t : ℕ = (s * c) % p in
      let small : t < p = mod-lt (s * c) (omega (arith, prime.more)) in
      let leads : Cong p (a * t) c = cong_mul (cong_refl {a = a}) cong_mod ⨾ via (a * s * c) (cong_eq (omega arith)) (cong_mul i cong_refl ⨾ cong_eq (omega arith)) in
      record {
        factor = t;
        least = positive t leads;
        most = small;
        leads = leads.eq ∙ mod-eq_of_lt hc;
        only = λ u l e. cong_small l small (cancel a u t ha (record { eq = e ∙ sym (leads.eq ∙ mod-eq_of_lt hc) }));
      }
    where
      positive : (t : ℕ) → Cong p (a * t) c → 0 < t
      positive zero e = let z : a * 0 ≡ 0 = omega arith in absurd (nc (sym (sym (zero-mod p) ∙ ap (λ (x : ℕ). x % p) (sym z) ∙ e.eq ∙ mod-eq_of_lt hc)))
      positive (suc t) e = omega arith

-- ---- trial division: of p by the n numbers from a on
abbrev unless : Bool → Bool → Bool
unless true r = false
unless false r = r

unless_left : (o r : Bool) → T (unless o r) → T o → ⊥
unless_left true r t u = t
unless_left false r t u = u

unless_right : (o r : Bool) → T (unless o r) → T r
unless_right true r t = absurd t
unless_right false r t = t

unfoldable trial : ℕ → ℕ → ℕ → Bool
trial p zero a = true
trial p (suc n) a = unless (eqb (p % a) 0) (trial p n (suc a))

trial_sound : (p n a : ℕ) → T (trial p n a) → (b : ℕ) → a ≤ b → b < a + n → p % b ≢ 0
unfolding trial
trial_sound p zero a t b l h = absurd (omega arith)
trial_sound p (suc n) a t b l h = go (eq-or-lt_of_le l) (λ l2. trial_sound p n (suc a) (unless_right (eqb (p % a) 0) (trial p n (suc a)) t) b l2 (omega arith))
  where
    go : (a ≡ b) ⊎ (a < b) → (a < b → p % b ≢ 0) → p % b ≢ 0
    go (inl e) rec z = unless_left (eqb (p % a) 0) (trial p n (suc a)) t (rw (e, z) tt)
    go (inr l2) rec z = rec l2 z

-- of two factors one is below the root
no_divisor : (p n : ℕ) → T (trial p n 2) → p < (n + 2) * (n + 2) → (a : ℕ) → 1 < a → a < p → p % a ≢ 0
no_divisor p n t h a h1 hp z = go (dec_lt a (n + 2))
  where
    b : ℕ
    b = p / a

    ab : p ≡ b * a
    ab = omega (arith, div-add-mod' p a)

    go : Dec (a < n + 2) → ⊥
    go (yes l) = trial_sound p n 2 t a h1 (omega arith) z
    go (no g) =
        let b2 : 1 < b = lt_of_mul-lt-mul_right a (omega (arith, ab)) in
        let bn : b < n + 2 = lt_of_mul-lt-mul_left (n + 2) (omega (arith, ab, mul-le-mul_left {m = n + 2} {n = a} b (omega arith))) in
        trial_sound p n 2 t b b2 (omega arith) (ap (λ (x : ℕ). x % b) ab ∙ mul-mod_right b a)

-- the root of q is below 2896
pub q_prime : Prime q
unfolding trial
q_prime = record { more = omega arith; undivided = no_divisor q 2894 tt (lit< tt) }
