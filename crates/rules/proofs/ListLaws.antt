-- Laws of Ψ, Z and the results added, as the code makes them.
use mathlib.Core.Path.{◌≡◌, refl, sym, ap, ap₂, ◌∙◌}
use mathlib.Core.Bool.{Bool, true, false}
use mathlib.Core.List.{List, [], ◌∷◌, ◌++◌, append_assoc}
use Prim.Native.Nat.{ℕ, ◌+◌, ◌-◌, ◌%◌, ◌^◌, ◌≤◌, ◌<◌}
use native.Mathlib.Nat.{mod-lt, mod-eq_of_lt}
use native.Mathlib.Numerals.{add-one}
use native.Mathlib.Omega.{arith}
use native.Mathlib.Decide.{dec_lt, ℕ_discrete}
use lib.ListN.{length, get_or, set, take}
use lib.Dec.{eqb}
use lib.Pow.{pow_pos}
use lib.Seq.{take-suc, get_or-take, length-take-le}
use borrow.Author.Tests.{eq-eqb, ne_eqb}
use Rattle.numbers.specs.Tests.{pick}
use Rattle.numbers.specs.Modulo.{add_mod, sub_mod, xor}
use Rattle.numbers.specs.Lists.{Words, change, along}
use Rattle.numbers.proofs.XorLaws.{xor_below}
use Rattle.numbers.proofs.WordsLaws.{words_at, words_change, take-change}
use Rattle.numbers.proofs.AlongLaws.{along_is, take-along, words_along}
use Rattle.rules.specs.Psi.{psi, psis, z_of, added}

-- ---- Ψ: what the wrapping subtraction of a word gives is the difference modulo 2^32
pub wraps : (a : ℕ) {b : ℕ} → b < 2 ^ 32 → (a + (2 ^ 32 - b)) % 2 ^ 32 ≡ sub_mod (2 ^ 32) a b
unfolding sub_mod
wraps a {b} h = ap (λ (c : ℕ). (a + (2 ^ 32 - c)) % 2 ^ 32) (sym (mod-eq_of_lt h))

pub psi_below : (k x u : ℕ) → psi k x u < 2 ^ k
unfolding psi
psi_below k x u = mod-lt _ (pow_pos k)

-- ---- Z
module _ (k s x : ℕ) (us : List ℕ) where
  pub z_odd : s % 2 ≡ 1 → {ws : List ℕ} → ws ≡ psis k x us → set ws 0 (xor (get_or ws 0 0) x) ≡ z_of k s x us
  unfolding z_of change
  z_odd e f = ap (λ (w : List ℕ). set w 0 (xor (get_or w 0 0) x)) f ∙ ap (λ t. pick t (change (λ z. xor z x) 0 (psis k x us)) (psis k x us)) (sym (eq-eqb (s % 2) 1 e))

  pub z_even : (s % 2 ≡ 1 → ⊥) → psis k x us ≡ z_of k s x us
  unfolding z_of
  z_even e = ap (λ t. pick t (change (λ z. xor z x) 0 (psis k x us)) (psis k x us)) (sym (ne_eqb (s % 2) 1 e))

  -- what holds of Ψ of x and each share with x combined into the first, and without, holds of Z
  z_either : (P : List ℕ → Type 0) → P (change (λ z. xor z x) 0 (psis k x us)) → P (psis k x us) → P (z_of k s x us)
  unfolding z_of
  z_either P a b = go (eqb (s % 2) 1)
    where
      go : (t : Bool) → P (pick t (change (λ z. xor z x) 0 (psis k x us)) (psis k x us))
      go true = a
      go false = b

pub z_words : {n M : ℕ} (k s x : ℕ) {us : List ℕ} → x < 2 ^ k → Words n M us → Words n (2 ^ k) (z_of k s x us)
unfolding psis
z_words {n} k s x {us} h w =
    let p : Words n (2 ^ k) (psis k x us) = words_along _ w (λ i y l b. psi_below k x y) in
    z_either k s x us (Words n (2 ^ k)) (words_change (λ z. xor z x) 0 p (xor_below k _ x (words_at (pow_pos k) p 0) h)) p

-- the first n shares of Z are those of the first n of U
pub z_take : (n k s x : ℕ) (us : List ℕ) → 0 < n → take n (z_of k s x us) ≡ z_of k s x (take n us)
unfolding z_of psis
z_take n k s x us h = go (eqb (s % 2) 1)
  where
    same : take n (along (λ j u. psi k x u) us) ≡ along (λ j u. psi k x u) (take n us)
    same = take-along (λ j u. psi k x u) (λ j u. psi k x u) n us (λ i y l. refl)

    go : (t : Bool) → take n (pick t (change (λ z. xor z x) 0 (psis k x us)) (psis k x us)) ≡ pick t (change (λ z. xor z x) 0 (psis k x (take n us))) (psis k x (take n us))
    go true = take-change (λ z. xor z x) n 0 (psis k x us) h ∙ ap (change (λ z. xor z x) 0) same
    go false = same

-- ---- the results added
abbrev adds : ℕ → List ℕ → ℕ → ℕ → ℕ
adds M zs j u = add_mod M u (get_or zs j 0)

-- what the word v at place i is
abbrev pub Added : (M last : ℕ) (us zs : List ℕ) (i v : ℕ) → Type 0
Added M last us zs i v = (i < last → v ≡ add_mod M (get_or us i 0) (get_or zs i 0)) × (i ≡ last → v ≡ get_or us i 0) × (last < i → v ≡ get_or zs (i - 1) 0)

module _ (M last : ℕ) (us zs : List ℕ) where
  -- a word that is so is below M
  added_small : {i v : ℕ} → i < 8 → 0 < M → Words 8 M us → Words 8 M zs → Added M last us zs i v → v < M
  unfolding add_mod
  added_small {i} {v} room h u z e = small (dec_lt i last) (ℕ_discrete i last)
    where
      small : Dec (i < last) → Dec (i ≡ last) → v < M
      small (yes l) t = rw (e.0 l) (mod-lt _ h)
      small (no l) (yes t) = rw (e.1 t) (words_at h u i)
      small (no l) (no t) = rw (e.2 (omega (arith, l, t))) (words_at h z (i - 1))

  -- an array whose words all are so
  pub added_words : (ws : List ℕ) → length ws ≡ 8 → 0 < M → Words 8 M us → Words 8 M zs → ((j : ℕ) → j < 8 → Added M last us zs j (get_or ws j 0)) → Words 8 M ws
  added_words ws size h u z a = record { size = size; below = λ j l. added_small l h u z (a j l) }

  pub added_take : {n : ℕ} (ws : List ℕ) → length ws ≡ 8 → ((j : ℕ) → j < 8 → Added M last us zs j (get_or ws j 0)) → n ≡ last + 1 → n ≤ 7 → length us ≡ 8 → take (n + 1) ws ≡ added M (take n us) (take n zs)
  unfolding added
  added_take {n} ws whole a one room size =
      ap (λ (k : ℕ). take k ws) (add-one n) ∙ take-suc ws n 0 (omega (arith, whole))
      ∙ ap (λ (l : List ℕ). l ++ (get_or ws n 0 ∷ [])) (ap (λ (k : ℕ). take k ws) (one ∙ add-one last) ∙ take-suc ws last 0 (omega (arith, whole)))
      ∙ append_assoc (take last ws) (get_or ws last 0 ∷ []) (get_or ws n 0 ∷ [])
      ∙ rw (length-take-le n us (omega arith), fewer, sums, u, z)
    where
      fewer : n - 1 ≡ last
      fewer = omega arith

      front : length (take last (take n us)) ≡ last
      front = length-take-le last (take n us) (omega (arith, length-take-le n us (omega arith)))

      at : (j : ℕ) → j < last → get_or (take last ws) j 0 ≡ adds M (take n zs) j (get_or (take last (take n us)) j 0)
      at j l =
          get_or-take last ws j 0 l ∙ (a j (omega arith)).0 l
          ∙ sym (ap₂ (add_mod M) (get_or-take last (take n us) j 0 l ∙ get_or-take n us j 0 (omega arith)) (get_or-take n zs j 0 (omega arith)))

      sums : take last ws ≡ along (adds M (take n zs)) (take last (take n us))
      sums = along_is _ (take last (take n us)) (take last ws) (length-take-le last ws (omega (arith, whole)) ∙ sym front) (λ j l. at j (omega (arith, front)))

      u : get_or ws last 0 ≡ get_or (take n us) last 0
      u = (a last (omega arith)).1 refl ∙ sym (get_or-take n us last 0 (omega arith))

      z : get_or ws n 0 ≡ get_or (take n zs) last 0
      z = (a n (omega arith)).2 (omega arith) ∙ ap (λ (k : ℕ). get_or zs k 0) fewer ∙ sym (get_or-take n zs last 0 (omega arith))
