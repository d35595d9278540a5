-- Laws of a change along a list, of a loop that makes it word by word, and of loops that are counted.
use mathlib.Core.Path.{◌≡◌, refl, sym, ap, subst, ◌∙◌}
use mathlib.Core.List.{List, [], ◌∷◌}
use Prim.Native.Nat.{ℕ, zero, suc, ◌+◌, ◌≤◌, ◌<◌}
use native.Mathlib.Nat.{le_of_suc-le-suc, not-suc-le-zero}
use native.Mathlib.Numerals.{add-one}
use native.Mathlib.Omega.{arith}
use native.Mathlib.Decide.{dec_lt, ℕ_discrete}
use lib.ListN.{length, get_or, set, take, length-set, length-take}
use lib.Seq.{get_or-set_same, get_or-set_other, get_or-take, ext_get_or}
use lib.Dec.{eqb}
use borrow.Author.Tests.{ne_eqb}
use Rattle.numbers.specs.Tests.{pick}
use Rattle.numbers.specs.Lists.{Words, change, along, over}
use Rattle.numbers.proofs.WordsLaws.{length-change, change_here, change_other}

pub length-along : (f : ℕ → ℕ → ℕ) (xs : List ℕ) → length (along f xs) ≡ length xs
unfolding along
length-along f [] = refl
length-along f (x ∷ xs) = ap suc (length-along (λ i. f (suc i)) xs)

pub along_at : (f : ℕ → ℕ → ℕ) (xs : List ℕ) (j : ℕ) → j < length xs → get_or (along f xs) j 0 ≡ f j (get_or xs j 0)
unfolding along
along_at f [] j h = absurd (not-suc-le-zero h)
along_at f (x ∷ xs) zero h = refl
along_at f (x ∷ xs) (suc j) h = along_at (λ i. f (suc i)) xs j (le_of_suc-le-suc h)

-- a list that has f's words is the list along f
pub along_is : (f : ℕ → ℕ → ℕ) (xs ys : List ℕ) → length ys ≡ length xs → ((j : ℕ) → j < length xs → get_or ys j 0 ≡ f j (get_or xs j 0)) → ys ≡ along f xs
along_is f xs ys e h =
    ext_get_or 0 ys (along f xs) (e ∙ sym (length-along f xs)) (λ j l. let k : j < length xs = omega arith in h j k ∙ sym (along_at f xs j k))

pub along_same : (f g : ℕ → ℕ → ℕ) (xs : List ℕ) → ((j : ℕ) → j < length xs → f j (get_or xs j 0) ≡ g j (get_or xs j 0)) → along f xs ≡ along g xs
along_same f g xs h = along_is g xs (along f xs) (length-along f xs) (λ j l. along_at f xs j l ∙ h j l)

-- the first n words; there, another function with the same words will do
pub take-along : (f g : ℕ → ℕ → ℕ) (n : ℕ) (xs : List ℕ) → ((i x : ℕ) → i < n → f i x ≡ g i x) → take n (along f xs) ≡ along g (take n xs)
take-along f g n xs same =
    along_is g (take n xs) (take n (along f xs)) (sizes (length-along f xs))
    (λ j l. let h : j < n = omega (arith, length-take n xs) in
    get_or-take n (along f xs) j 0 h ∙ along_at f xs j (omega (arith, length-take n xs)) ∙ ap (f j) (sym (get_or-take n xs j 0 h)) ∙ same j _ h)
  where
    sizes : length (along f xs) ≡ length xs → length (take n (along f xs)) ≡ length (take n xs)
    sizes e = length-take n (along f xs) ∙ rw e (sym (length-take n xs))

-- a change at the first place, in the same pass
pub change_first : (h : ℕ → ℕ) (f : ℕ → ℕ → ℕ) (xs : List ℕ) → change h 0 (along f xs) ≡ along (λ i x. pick (eqb i 0) (h (f i x)) (f i x)) xs
change_first h f xs = along_is _ xs (change h 0 (along f xs)) (length-change h 0 (along f xs) ∙ length-along f xs) at
  where
    at : (j : ℕ) → j < length xs → get_or (change h 0 (along f xs)) j 0 ≡ pick (eqb j 0) (h (f j (get_or xs j 0))) (f j (get_or xs j 0))
    at zero l = change_here h 0 (along f xs) (omega (arith, length-along f xs)) ∙ ap h (along_at f xs 0 l)
    at (suc j) l = rw (ne_eqb (suc j) 0 (omega arith)) (change_other h 0 (along f xs) (suc j) (omega arith) ∙ along_at f xs (suc j) l)

pub words_along : {n M N : ℕ} (f : ℕ → ℕ → ℕ) {xs : List ℕ} → Words n M xs → ((i x : ℕ) → i < n → x < M → f i x < N) → Words n N (along f xs)
words_along f {xs} w h =
    record {
      size = length-along f xs ∙ w.size;
      below = λ i l. rw (along_at f xs i (omega (arith, w.size))) (h i (get_or xs i 0) l (w.below i l));
    }

-- ---- a loop along an array of so many words, which began as xs: at turn i the words before i are f's, and the others are as they were
pub record Along (size : ℕ) (f : ℕ → ℕ → ℕ) (xs : List ℕ) (i : ℕ) (ys : List ℕ) : Type 0 where
  pub most : i ≤ size
  pub whole : length xs ≡ size
  pub kept : length ys ≡ size
  pub before : (j : ℕ) → j < i → get_or ys j 0 ≡ f j (get_or xs j 0)
  pub since : (j : ℕ) → i ≤ j → get_or ys j 0 ≡ get_or xs j 0

pub along-start : {size : ℕ} {f : ℕ → ℕ → ℕ} {xs : List ℕ} → length xs ≡ size → Along size f xs 0 xs
along-start e = record { most = omega arith; whole = e; kept = e; before = λ j h. absurd (not-suc-le-zero h); since = λ j h. refl }

module _ {size : ℕ} {f : ℕ → ℕ → ℕ} {xs : List ℕ} {i : ℕ} {ys : List ℕ} (a : Along size f xs i ys) where
  -- the word that is read
  pub along_read : get_or ys i 0 ≡ get_or xs i 0
  along_read = a.since i (omega arith)

  -- f of it stored
  pub along_more : i < size → {v : ℕ} → v ≡ f i (get_or ys i 0) → Along size f xs (i + 1) (set ys i v)
  along_more h {v} e =
      record {
        most = omega arith;
        whole = a.whole;
        kept = length-set ys i v ∙ a.kept;
        before = λ j l. go j l (ℕ_discrete j i);
        since = λ j l. get_or-set_other ys i j v 0 (omega arith) ∙ a.since j (omega arith);
      }
    where
      go : (j : ℕ) → j < i + 1 → Dec (j ≡ i) → get_or (set ys i v) j 0 ≡ f j (get_or xs j 0)
      go j l (yes q) = rw q (get_or-set_same ys i v 0 (omega (arith, a.kept)) ∙ e ∙ ap (f i) along_read)
      go j l (no n) = get_or-set_other ys i j v 0 n ∙ a.before j (omega (arith, n))

  -- the end of the loop
  pub along_all : size ≤ i → ys ≡ along f xs
  along_all h = along_is f xs ys (a.kept ∙ sym a.whole) (λ j l. a.before j (omega (arith, a.whole)))

  -- words below M, if f keeps them so
  pub along_below : {M : ℕ} → Words size M xs → ((j x : ℕ) → x < M → f j x < M) → Words size M ys
  along_below {M} w keeps = record { size = a.kept; below = λ j l. go j l (dec_lt j i) }
    where
      go : (j : ℕ) → j < size → Dec (j < i) → get_or ys j 0 < M
      go j l (yes h) = subst (λ (x : ℕ). x < M) (sym (a.before j h)) (keeps j (get_or xs j 0) (w.below j l))
      go j l (no n) = subst (λ (x : ℕ). x < M) (sym (a.since j (omega (arith, n)))) (w.below j l)

-- ---- one turn more
pub over_more : {A : Type 0} (f : ℕ → A → A) (i : ℕ) (a : A) → over f (i + 1) a ≡ f i (over f i a)
unfolding over
over_more f i a = rw (add-one i)
