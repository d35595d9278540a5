-- Laws of the steps of modulus switching that more than one gadget makes, as the code makes them.
use mathlib.Core.Path.{◌≡◌, refl, sym, ap, ap₂, ◌∙◌}
use mathlib.Core.List.{List}
use Prim.Native.Nat.{ℕ, ◌+◌, ◌-◌, ◌*◌, ◌/◌, ◌%◌, ◌^◌, ◌≤◌, ◌<◌}
use native.Mathlib.Nat.{mod-lt, mod-eq_of_lt, mul-le-mul_left, mul-lt-mul_of_pos_right, div-lt_iff_lt-mul}
use native.Mathlib.Omega.{arith}
use lib.ListN.{length, get_or, set, take}
use lib.Seq.{get_or-take, length-take-le}
use Rattle.numbers.specs.Modulo.{q, sub_mod}
use Rattle.numbers.specs.Lists.{Words, along}
use Rattle.numbers.proofs.GroupLaws.{sub_small}
use Rattle.numbers.proofs.WordsLaws.{words_take}
use Rattle.numbers.proofs.AlongLaws.{along_is, along_same, take-along, words_along, Along, along-start, along_more, along_below}
use Rattle.shares.specs.Arrays.{Held}
use Rattle.shares.specs.Sharing.{arithmetic}
use Rattle.shares.proofs.ArraysLaws.{held_below, held_of}
use Rattle.first.specs.First.{add_to_first}
use Rattle.first.proofs.FirstLaws.{added-take, added_words}
use Rattle.halves.specs.Carries.{floors, raised, without}

-- ---- c·e_i taken off each share
pub without_words : {n N : ℕ} (M c : ℕ) (es : List ℕ) {xs : List ℕ} → 0 < M → Words n N xs → Words n M (without M c es xs)
unfolding without sub_mod
without_words M c es h w = words_along _ w (λ i x l b. mod-lt _ h)

-- in a loop over the first n places of an array that began as zs: at turn i those before i are done
pub record Taking (M c n : ℕ) (es xs zs : List ℕ) (i : ℕ) (ys : List ℕ) : Type 0 where
  pub most : i ≤ n
  pub fits : n ≤ length xs
  pub positive : 0 < M
  pub empty : Words 8 M zs
  pub so_far : Along 8 (λ j x. sub_mod M (get_or xs j 0) (c * get_or es j 0)) zs i ys

pub taking_start : {M c n : ℕ} {es xs zs : List ℕ} → n ≤ length xs → 0 < M → Words 8 M zs → Taking M c n es xs zs 0 zs
taking_start l h w = record { most = omega arith; fits = l; positive = h; empty = w; so_far = along-start w.size }

module _ {M c n : ℕ} {es xs zs : List ℕ} {i : ℕ} {ys : List ℕ} (a : Taking M c n es xs zs i ys) where
  pub taking_more : i < 8 → (i ≡ n → ⊥) → {v : ℕ} → v ≡ sub_mod M (get_or xs i 0) (c * get_or es i 0) → Taking M c n es xs zs (i + 1) (set ys i v)
  taking_more h k e = record { most = omega (arith, a.most, k); fits = a.fits; positive = a.positive; empty = a.empty; so_far = along_more a.so_far h e }

  pub taking_all : n ≤ i → Words 8 M ys × (take n ys ≡ without M c (take n es) (take n xs))
  unfolding without
  taking_all end = (
    along_below a.so_far a.empty (λ j x l. sub_small M _ _ a.positive),
    along_is _ (take n xs) (take n ys) (length-take-le n ys (omega (arith, a.so_far.most, a.so_far.kept, a.most)) ∙ sym size) (λ j k. at j (omega (arith, size))),
  )
    where
      size : length (take n xs) ≡ n
      size = length-take-le n xs a.fits

      at : (j : ℕ) → j < n → get_or (take n ys) j 0 ≡ sub_mod M (get_or (take n xs) j 0) (c * get_or (take n es) j 0)
      at j k = get_or-take n ys j 0 k ∙ a.so_far.before j (omega arith) ∙ sym (ap₂ (λ (x e : ℕ). sub_mod M x (c * e)) (get_or-take n xs j 0 k) (get_or-take n es j 0 k))

-- ---- n - 1 on the first share
module _ {n M : ℕ} {fs : List ℕ} (a : Held 8 n M fs) (fits : n ≤ M) where
  pub raised-held : Held 8 n M (add_to_first (arithmetic M) (n - 1) fs)
  raised-held = held_of a (added_words (arithmetic M) (n - 1) (omega (arith, a.two)) (omega (arith, a.least)) a.all)

  pub raised-take : take n (add_to_first (arithmetic M) (n - 1) fs) ≡ raised M (take n fs)
  unfolding raised
  raised-take =
      let size : length (take n fs) ≡ n = length-take-le n fs (omega (arith, a.most, a.all.size)) in
      added-take (arithmetic M) (n - 1) n fs (omega (arith, a.least)) ∙ ap (λ (j : ℕ). add_to_first (arithmetic M) (j - 1) (take n fs)) (sym size)

-- ---- floors that stay below M need no remainder
module _ (f : ℕ → ℕ) (c p : ℕ) {n N M : ℕ} {xs : List ℕ} (is : (x : ℕ) → f x ≡ x * c / p) (small : (x : ℕ) → x < N → f x < M) (two : 2 ≤ M) (a : Held 8 n N xs) where
  pub floors-held : Held 8 n M (along (λ i x. f x) xs)
  floors-held = held_below a two (words_along _ a.all (λ i x l h. small x h))

  pub floors-take : take n (along (λ i x. f x) xs) ≡ floors M c p (take n xs)
  unfolding floors
  floors-take =
      let w : Words n N (take n xs) = words_take n a.most a.all in
      take-along (λ i x. f x) (λ i x. f x) n xs (λ i x l. refl)
      ∙ along_same _ _ (take n xs)
      (λ j l. let x : ℕ = get_or (take n xs) j 0 in sym (ap (λ (y : ℕ). y % M) (sym (is x)) ∙ mod-eq_of_lt (small x (w.below j (omega (arith, w.size))))))

-- those of shares below p stay below c
pub scaled_small : (c p : ℕ) {M : ℕ} → 0 < M → c ≤ M → (x : ℕ) → x < p → x * c / p < M
scaled_small c p {M} pos h x l = (div-lt_iff_lt-mul {k = p} {x = x * c} {y = M} (omega arith)).1 (omega (arith, mul-le-mul_left x h, mul-lt-mul_of_pos_right l pos))

-- and the product is one of 64 bits
pub scaled_fits : {x c : ℕ} → x < q → c < 2 ^ 32 → x * c < 2 ^ 64
scaled_fits {x} {c} h l = let wide : c ≤ 2 ^ 32 = omega arith in omega (arith, mul-le-mul_left x wide)
