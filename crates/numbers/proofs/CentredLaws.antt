-- Laws of residues as signed numbers.
use mathlib.Core.Path.{◌≡◌, sym, ap, subst, ◌∙◌}
use Prim.Native.Nat.{ℕ, zero, suc, ◌+◌, ◌-◌, ◌*◌, ◌/◌, ◌%◌, ◌≤◌, ◌<◌}
use native.Mathlib.Nat.{mod-lt, mod-eq_of_lt, mod-eq-sub-mod}
use native.Mathlib.Decide.{dec_le}
use native.Mathlib.Omega.{arith}
use lib.Dec.{le→leb}
use lib.IntN.{ℤ, pos, negsuc, neg_ℤ, nat_abs, ◌-ℤ◌, -ℤ_one}
use lib.Signed.{◌≤ℤ◌, le_z_yes}
use borrow.Author.Tests.{lt-ltb, le-ltb, le-leb, lt-leb}
use Rattle.numbers.specs.Modulo.{add_mod, sub_mod, neg_mod}
use Rattle.numbers.specs.Centred.{centred, residue}
use Rattle.numbers.proofs.Cong.{cong_by, cong_eq, cong_refl, cong_add, cong_mod, cong_sym, cong_cancel, via, ◌⨾◌}
use Rattle.numbers.proofs.GroupLaws.{sub_small, sub_back, sub_only}

-- a number less another
pub less-over : (a b : ℕ) → b ≤ a → pos a -ℤ pos b ≡ pos (a - b)
less-over a zero h = ap pos (omega arith)
less-over a (suc b) h = rw (le-ltb a (suc b) h)

pub less_under : (a b : ℕ) → a < b → pos a -ℤ pos b ≡ negsuc (b - suc a)
less_under a zero h = absurd (omega arith)
less_under a (suc b) h = rw (lt-ltb a (suc b) h)

-- a smaller number less another is one below what it is less the one before
pub less_one : (a b : ℕ) → a < b → pos a -ℤ pos b ≡ (pos a -ℤ pos (b - 1)) -ℤ pos 1
less_one a b h = go (dec_le (b - 1) a)
  where
    go : Dec (b - 1 ≤ a) → pos a -ℤ pos b ≡ (pos a -ℤ pos (b - 1)) -ℤ pos 1
    go (yes l) =
        let e : a - (b - 1) ≡ 0 = omega arith in
        let f : b - suc a ≡ 0 = omega arith in
        less_under a b h ∙ ap negsuc f ∙ sym (ap (λ (z : ℤ). z -ℤ pos 1) (less-over a (b - 1) l ∙ ap pos e))
    go (no n) =
        let e : b - suc a ≡ suc (b - 1 - suc a) = omega arith in
        less_under a b h ∙ ap negsuc e ∙ sym (ap (λ (z : ℤ). z -ℤ pos 1) (less_under a (b - 1) (omega arith)) ∙ -ℤ_one (negsuc (b - 1 - suc a)))

module _ (x g : ℕ) where
  -- x less g is at least −g, and at most any h for which x is at most g + h
  pub less_least : neg_ℤ (pos g) ≤ℤ (pos x -ℤ pos g)
  less_least = go g (dec_le g x)
    where
      go : (g : ℕ) → Dec (g ≤ x) → neg_ℤ (pos g) ≤ℤ (pos x -ℤ pos g)
      go zero d = rw (less-over x 0 (omega arith)) (le_z_yes (le→leb 0 (x - 0) (omega arith)))
      go (suc k) (yes h) = rw (less-over x (suc k) h) (le_z_yes tt)
      go (suc k) (no n) = rw (less_under x (suc k) (omega arith)) (le_z_yes (le→leb (suc k - suc x) k (omega arith)))

  pub less_most : (h : ℕ) → x ≤ g + h → (pos x -ℤ pos g) ≤ℤ pos h
  less_most h l = go (dec_le g x)
    where
      go : Dec (g ≤ x) → (pos x -ℤ pos g) ≤ℤ pos h
      go (yes k) = rw (less-over x g k) (le_z_yes (le→leb (x - g) h (omega arith)))
      go (no n) = rw (less_under x g (omega arith)) (le_z_yes tt)

-- a residue above M/2 means itself less M
pub centred_top : (M x : ℕ) → M / 2 < x → centred M x ≡ pos x -ℤ pos M
unfolding centred
centred_top M x h = rw (lt-leb x (M / 2) h)

-- a difference modulo M means the difference, where it is small enough either way
module _ (M x g : ℕ) (low : x ≤ g + M / 2) (high : g + M / 2 < x + M) where
  over : g ≤ x → (x - g) ≡ sub_mod M x g
  over h = sub_only g (omega arith) (cong_eq (omega arith))

  under : x < g → (x + M - g) ≡ sub_mod M x g
  under h = sub_only g (omega arith) (cong_by 0 1 (omega arith))

  pub centred-sub : centred M (sub_mod M x g) ≡ pos x -ℤ pos g
  unfolding centred
  centred-sub = go (dec_le g x)
    where
      go : Dec (g ≤ x) → centred M (sub_mod M x g) ≡ pos x -ℤ pos g
      go (yes h) = rw (← over h, le-leb (x - g) (M / 2) (omega arith)) (sym (less-over x g h))
      go (no n) =
          let h : x < g = omega arith in
          let e : M - suc (x + M - g) ≡ g - suc x = omega arith in
          rw (← under h, lt-leb (x + M - g) (M / 2) (omega arith)) (less_under (x + M - g) M (omega arith) ∙ ap negsuc e ∙ sym (less_under x g h))

-- a residue of size at most b, with b added, is at most 2b, and less b again it is what the residue means
module _ (M b x : ℕ) (l : x < M) (room : 2 * b < M) (h : nat_abs (centred M x) ≤ b) where
  record Within : Type 0 where
    most : add_mod M x b ≤ 2 * b
    is : pos (add_mod M x b) -ℤ pos b ≡ centred M x

  within : Within
  unfolding centred add_mod
  within = go (dec_le x (M / 2))
    where
      go : Dec (x ≤ M / 2) → Within
      go (yes k) =
          let c : centred M x ≡ pos x = rw (le-leb x (M / 2) k) in
          let small : x ≤ b = subst (λ (z : ℤ). nat_abs z ≤ b) c h in
          let sum : (x + b) % M ≡ x + b = mod-eq_of_lt (omega arith) in
          let back : x + b - b ≡ x = omega arith in
          record { most = rw sum (omega arith); is = rw sum (less-over (x + b) b (omega arith) ∙ ap pos back ∙ sym c) }
      go (no n) =
          let c : centred M x ≡ negsuc (M - suc x) = rw (lt-leb x (M / 2) (omega arith)) (less_under x M l) in
          let small : suc (M - suc x) ≤ b = subst (λ (z : ℤ). nat_abs z ≤ b) c h in
          let sum : (x + b) % M ≡ x + b - M = mod-eq-sub-mod {n = x + b} {m = M} (omega arith) ∙ mod-eq_of_lt (omega arith) in
          let back : b - suc (x + b - M) ≡ M - suc x = omega arith in
          record { most = rw sum (omega arith); is = rw sum (less_under (x + b - M) b (omega arith) ∙ ap negsuc back ∙ sym c) }

  pub reach_most : add_mod M x b ≤ 2 * b
  reach_most = within.most

  pub reach_is : pos (add_mod M x b) -ℤ pos b ≡ centred M x
  reach_is = within.is

-- ---- the residue of a signed number
module _ (M : ℕ) (some : 0 < M) where
  pub residue_below : (z : ℤ) → residue M z < M
  unfolding residue neg_mod
  residue_below (pos v) = mod-lt v some
  residue_below (negsuc v) = sub_small M 0 (suc v) some

  -- of a number less another
  pub residue-less : (z : ℤ) (a : ℕ) → residue M (z -ℤ pos a) ≡ sub_mod M (residue M z) a
  unfolding residue neg_mod
  residue-less (pos v) a = go (dec_le a v)
    where
      go : Dec (a ≤ v) → residue M (pos v -ℤ pos a) ≡ sub_mod M (v % M) a
      go (yes h) = rw (less-over v a h) (sub_only a (mod-lt (v - a) some) (cong_add cong_mod cong_refl ⨾ via v (cong_eq (omega arith)) (cong_sym cong_mod)))
      go (no n) =
          let e : suc (a - suc v) ≡ a - v = omega arith in
          let r : ℕ = sub_mod M 0 (a - v) in
          rw (less_under v a (omega arith), e)
          (sub_only a (sub_small M 0 (a - v) some) (via (r + (a - v) + v) (cong_eq (omega arith)) (cong_add (sub_back M 0 (a - v) some) cong_refl ⨾ via v (cong_eq (omega arith)) (cong_sym cong_mod))))
  residue-less (negsuc v) zero =
      let e : suc v - suc 0 ≡ v = omega arith in
      ap (residue M) (less_under 0 (suc v) (omega arith) ∙ ap negsuc e) ∙ sub_only 0 (sub_small M 0 (suc v) some) (cong_eq (omega arith))
  residue-less (negsuc v) (suc b) =
      let r : ℕ = sub_mod M 0 (suc (suc (v + b))) in
      sub_only (suc b) (sub_small M 0 (suc (suc (v + b))) some)
      (cong_cancel (suc v)
      (via (r + suc (suc (v + b))) (cong_eq (omega arith)) (sub_back M 0 (suc (suc (v + b))) some ⨾ cong_sym (sub_back M 0 (suc v) some))))

  -- and of one with the other sign
  pub residue-negated : (z : ℤ) → residue M (neg_ℤ z) ≡ neg_mod M (residue M z)
  unfolding residue neg_mod
  residue-negated (pos zero) = sub_only (0 % M) (mod-lt 0 some) (via (0 + 0) (cong_add cong_mod cong_mod) (cong_eq (omega arith)))
  residue-negated (pos (suc v)) = sub_only (suc v % M) (sub_small M 0 (suc v) some) (cong_add cong_refl cong_mod ⨾ sub_back M 0 (suc v) some)
  residue-negated (negsuc v) =
      let r : ℕ = sub_mod M 0 (suc v) in
      sub_only r (mod-lt (suc v) some) (cong_add cong_mod cong_refl ⨾ via (r + suc v) (cong_eq (omega arith)) (sub_back M 0 (suc v) some))

  -- a residue is that of the signed number that it means
  pub residue-centred : (v : ℕ) → v < M → residue M (centred M v) ≡ v
  unfolding centred residue
  residue-centred v h = go (dec_le v (M / 2))
    where
      go : Dec (v ≤ M / 2) → residue M (centred M v) ≡ v
      go (yes k) = rw (le-leb v (M / 2) k) (mod-eq_of_lt h)
      go (no n) =
          rw (lt-leb v (M / 2) (omega arith))
          (residue-less (pos v) M ∙ sym (sub_only M h (via v (cong_by 0 1 (omega arith)) (cong_sym cong_mod))))
