-- Arrays that calls of a closure make, where the calls leave what it captured as it was.
use Rattle.std.proofs.Common.{◌≡◌, refl, sym, subst, ◌∙◌, ℕ, zero, suc, ◌+◌, ◌≤◌, ◌<◌, List, get_or, length, arith}
use denote.Param.Members.{Mut}
use native.Mathlib.Decide.{ℕ_discrete}
use Rattle.std.specs.Fn.{Called}
use Rattle.std.specs.Array.{IsFromFnResultFrom, IsFromFnResult, MapsFrom, IsMapOf}
use Rattle.numbers.specs.Lists.{along}
use Rattle.numbers.proofs.AlongLaws.{along_is}

-- at each place, what is true of each call
module _ {F : Type 0} {g : Mut F (ℕ × Unit {0}) ℕ} {f : F} (P : ℕ → ℕ → Type 0) (keeps : (i y : ℕ) (q : F) → Called g f (i, tt) y q → P i y × (q ≡ f)) (ys : List ℕ) where
  made_from : (i n : ℕ) (p : F) → p ≡ f → IsFromFnResultFrom g p ys i n → (j : ℕ) → i ≤ j → j < i + n → P j (get_or ys j 0)
  made_from i zero p e r j l m = absurd (omega arith)
  made_from i (suc n) p e (q, y, is, called, rest) j l m =
      let k = keeps i y q (subst (λ p. Called g p (i, tt) y q) e called) in
      elim (ℕ_discrete j i) [
        | yes s ↦ rw (s, is.1 0) k.0
        | no s ↦ made_from (i + 1) n q k.1 rest j (omega (arith, s)) (omega arith)
      ]

  pub made_so : {n : ℕ} → IsFromFnResult g f ys n → (j : ℕ) → j < n → P j (get_or ys j 0)
  made_so {n} r j l = made_from 0 n f refl r.each j (omega arith) (omega arith)

-- at each place, of that place
pub made_at : {F : Type 0} {g : Mut F (ℕ × Unit {0}) ℕ} {f : F} (h : ℕ → ℕ) → ((i y : ℕ) (q : F) → Called g f (i, tt) y q → (y ≡ h i) × (q ≡ f)) →
    (ys : List ℕ) {n : ℕ} → IsFromFnResult g f ys n → (j : ℕ) → j < n → get_or ys j 0 ≡ h j
made_at h keeps ys r j l = made_so (λ i y. y ≡ h i) keeps ys r j l

-- and of the word of xs there
pub made_along : {F : Type 0} {g : Mut F (ℕ × Unit {0}) ℕ} {f : F} (h : ℕ → ℕ → ℕ) (xs : List ℕ) {ys : List ℕ} → ((i y : ℕ) (q : F) → Called g f (i, tt) y q → (y ≡ h i (get_or xs i 0)) × (q ≡ f)) →
    {n : ℕ} → length xs ≡ n → IsFromFnResult g f ys n → ys ≡ along h xs
made_along h xs {ys} keeps e r = along_is h xs ys (r.long ∙ sym e) (λ j l. made_at (λ i. h i (get_or xs i 0)) keeps ys r j (omega (arith, e)))

-- of each word
module _ {F : Type 0} {g : Mut F (ℕ × Unit {0}) ℕ} {f : F} (h : ℕ → ℕ) (keeps : (x y : ℕ) (q : F) → Called g f (x, tt) y q → (y ≡ h x) × (q ≡ f)) (xs ys : List ℕ) where
  mapped_from : (i n : ℕ) (p : F) → p ≡ f → MapsFrom g p xs ys i n → (j : ℕ) → i ≤ j → j < i + n → get_or ys j 0 ≡ h (get_or xs j 0)
  mapped_from i zero p e r j l m = absurd (omega arith)
  mapped_from i (suc n) p e (q, x, y, read, is, called, rest) j l m =
      let k = keeps x y q (subst (λ p. Called g p (x, tt) y q) e called) in
      elim (ℕ_discrete j i) [
        | yes s ↦ rw (s, read.1 0) (is.1 0 ∙ k.0)
        | no s ↦ mapped_from (i + 1) n q k.1 rest j (omega (arith, s)) (omega arith)
      ]

  pub mapped : {n : ℕ} → length xs ≡ n → IsMapOf g f xs ys n → ys ≡ along (λ i x. h x) xs
  mapped {n} e r = along_is (λ i x. h x) xs ys (r.long ∙ sym e) (λ j l. mapped_from 0 n f refl r.each j (omega arith) (omega (arith, e)))
