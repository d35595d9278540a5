-- Laws of the checks: what the code's tests say of them, and what is known where all checks passed.
use Rattle.std.proofs.Common.{◌≡◌, List, [], ◌∷◌, Bool, true, false, ℕ, zero, suc, ◌%◌, ◌^◌, ◌≤◌, ◌<◌, length, get_or, ltb, leb, eqb, nat_lt, refl, sym, ap, ◌∙◌, arith, le_of_suc-le-suc, mod-eq_of_lt, lt-ltb, le-leb, eq-eqb, ne_eqb, leb-true, ltb-true, eqb-true}
use Rattle.std.proofs.lemmas.Grind.{common_steps}
use Rattle.std.specs.List.{list_all}
use borrow.Author.Tests.{lt-leb}
use Rattle.numbers.specs.Tests.{both, pick}
use Rattle.numbers.specs.Lists.{Words}
use Rattle.checks.specs.Checks.{inside, all_below, first_failing, checks_of, Checked, checks}

pub both_left : (a b : Bool) → both a b ≡ true → a ≡ true
both_left true b e = refl
both_left false b e = e

pub both_right : (a b : Bool) → both a b ≡ true → b ≡ true
both_right true b e = e
both_right false b e = cc

-- ---- a number from low to high
module _ (low high x : ℕ) where
  pub inside_yes : low ≤ x → x ≤ high → inside low high x ≡ true
  unfolding inside
  inside_yes h l = rw (le-leb low x h, le-leb x high l)

  pub inside_low : x < low → inside low high x ≡ false
  unfolding inside
  inside_low h = rw (lt-leb low x h)

  pub inside_high : low ≤ x → high < x → inside low high x ≡ false
  unfolding inside
  inside_high h l = rw (le-leb low x h, lt-leb x high l)

  pub inside_out : inside low high x ≡ true → (low ≤ x) × (x ≤ high)
  unfolding inside
  inside_out e = (leb-true low x (both_left (leb low x) (leb x high) e), leb-true x high (both_right (leb low x) (leb x high) e))

-- ---- every word below M
-- as std's test of each element says it
pub all_below_is : (M : ℕ) (xs : List ℕ) → list_all (λ x. nat_lt x M) xs ≡ all_below M xs
unfolding all_below
all_below_is M [] = refl
all_below_is M (x ∷ xs) = let h = all_below_is M xs in grind (arith, common_steps)

pub below_words : (M : ℕ) (xs : List ℕ) → all_below M xs ≡ true → Words (length xs) M xs
unfolding all_below
below_words M xs e = record { size = refl; below = go xs e }
  where
    go : (ys : List ℕ) → all_below M ys ≡ true → (i : ℕ) → i < length ys → get_or ys i 0 < M
    go [] f i h = absurd (omega arith)
    go (y ∷ ys) f zero h = ltb-true y M (both_left (ltb y M) (all_below M ys) f)
    go (y ∷ ys) f (suc i) h = go ys (both_right (ltb y M) (all_below M ys) f) i (le_of_suc-le-suc h)

pub words_below : {n M : ℕ} {xs : List ℕ} → Words n M xs → all_below M xs ≡ true
unfolding all_below
words_below {M = M} {xs = xs} w = go xs (λ i h. w.below i (omega (arith, w.size)))
  where
    go : (ys : List ℕ) → ((i : ℕ) → i < length ys → get_or ys i 0 < M) → all_below M ys ≡ true
    go [] f = refl
    go (y ∷ ys) f = rw (lt-ltb y M (f 0 (omega arith))) (go ys (λ i h. f (suc i) (omega arith)))

-- ---- the checks in their order
first : (b : Bool) (k m : ℕ) → pick b m k ≡ 0 → (k ≡ 0 → ⊥) → (b ≡ true) × (m ≡ 0)
first true k m e n = (refl, e)
first false k m e n = absurd (n e)

module _ (n room words : ℕ) (in_range : Bool) (more : List (ℕ × Bool)) where
  pub fails_1 : inside 2 8 n ≡ false → 1 ≡ first_failing (checks_of n room words in_range more)
  unfolding first_failing checks_of
  fails_1 e = rw e

  module _ (least : 2 ≤ n) (most : n ≤ 8) where
    pub fails_2 : (room ≡ words → ⊥) → 2 ≡ first_failing (checks_of n room words in_range more)
    unfolding first_failing checks_of
    fails_2 h = rw (inside_yes 2 8 n least most, ne_eqb room words h)

    module _ (fits : room ≡ words) where
      pub fails_3 : in_range ≡ false → 3 ≡ first_failing (checks_of n room words in_range more)
      unfolding first_failing checks_of
      fails_3 e = rw (inside_yes 2 8 n least most, eq-eqb room words fits, e)

      pub fails_later : in_range ≡ true → first_failing more ≡ first_failing (checks_of n room words in_range more)
      unfolding first_failing checks_of
      fails_later e = rw (inside_yes 2 8 n least most, eq-eqb room words fits, e)

  -- what is known where no check fails
  pub record AllPassed : Type 0 where
    pub least : 2 ≤ n
    pub most : n ≤ 8
    pub fits : room ≡ words
    pub range : in_range ≡ true
    pub later : first_failing more ≡ 0

  pub all_checked : first_failing (checks_of n room words in_range more) ≡ 0 → AllPassed
  unfolding first_failing checks_of
  all_checked e =
      let (c, f) = first (inside 2 8 n) 1 _ e (λ z. omega arith) in
      let (s, g) = first (eqb room words) 2 _ f (λ z. omega arith) in
      let (r, h) = first in_range 3 _ g (λ z. omega arith) in
      let (low, high) = inside_out 2 8 n c in
      record { least = low; most = high; fits = eqb-true room words s; range = r; later = h }

  -- no number is above 3 but those of what is checked later
  pub number_most : (top : ℕ) → 3 ≤ top → first_failing more ≤ top → first_failing (checks_of n room words in_range more) ≤ top
  unfolding first_failing checks_of
  number_most top h l = go (inside 2 8 n) (eqb room words) in_range
    where
      go : (a b c : Bool) → pick a (pick b (pick c (first_failing more) 3) 2) 1 ≤ top
      go true true true = l
      go true true false = h
      go true false c = omega arith
      go false b c = omega arith

-- ---- and of the shares
module _ (M : ℕ) (shares : List ℕ) where
  pub below_fails : all_below M shares ≡ false → 4 ≡ first_failing ((4, all_below M shares) ∷ [])
  unfolding first_failing
  below_fails e = rw e

  pub below_passes : all_below M shares ≡ true → 0 ≡ first_failing ((4, all_below M shares) ∷ [])
  unfolding first_failing
  below_passes e = rw e

  pub below_most : first_failing ((4, all_below M shares) ∷ []) ≤ 4
  unfolding first_failing
  below_most = go (all_below M shares)
    where
      go : (b : Bool) → pick b 0 4 ≤ 4
      go true = omega arith
      go false = omega arith

module _ (shares : List ℕ) (room : ℕ) (in_range : Bool) (M : ℕ) where
  -- what is known where no check of a gadget on shares fails
  pub record Passed : Type 0 where
    pub ready : Checked shares room M
    pub range : in_range ≡ true

  pub all_passed : first_failing (checks shares room in_range M) ≡ 0 → Passed
  unfolding first_failing checks
  all_passed e =
      let c = all_checked (length shares) room (length shares) in_range ((4, all_below M shares) ∷ []) e in
      let below = below_words M shares (first (all_below M shares) 4 0 c.later (λ z. omega arith)).0 in
      record { ready = record { least = c.least; most = c.most; below = below; fits = c.fits }; range = c.range }

-- the bound of a width that is in range
bound_of_width : {k r : ℕ} → r ≡ 2 ^ (k % 32) → k ≤ 31 → r ≡ 2 ^ k
bound_of_width e h = e ∙ ap (λ (j : ℕ). 2 ^ j) (mod-eq_of_lt (omega arith))

-- what was checked, of a range that was computed
pub range_checked : (n room words : ℕ) (more : List (ℕ × Bool)) {k : ℕ} {a b : Bool} → first_failing (checks_of n room words a more) ≡ k → a ≡ b →
    first_failing (checks_of n room words b more) ≡ k
range_checked n room words more e f = ap (λ (c : Bool). first_failing (checks_of n room words c more)) (sym f) ∙ e

-- what was checked, of a range and a bound that were computed; the bound counts only where the parameters are in range
pub checked : (shares : List ℕ) (room : ℕ) {k : ℕ} {a b : Bool} {M N : ℕ} → first_failing (checks shares room a M) ≡ k → a ≡ b → (b ≡ true → M ≡ N) →
    first_failing (checks shares room b N) ≡ k
unfolding first_failing checks checks_of
checked shares room {k} {a} {b} {M} {N} e f h = go b h ∙ ap (λ (c : Bool). first_failing (checks shares room c M)) (sym f) ∙ e
  where
    go : (c : Bool) → (c ≡ true → M ≡ N) → first_failing (checks shares room c N) ≡ first_failing (checks shares room c M)
    go true g = rw (g refl)
    go false g = refl

-- the same of a width from 1 to high, and of 2 to it
pub checked_width : (shares : List ℕ) (room : ℕ) {r : ℕ} {a : Bool} {M : ℕ} (high k : ℕ) → high ≤ 31 → first_failing (checks shares room a M) ≡ r → a ≡ inside 1 high k →
    M ≡ 2 ^ (k % 32) → first_failing (checks shares room (inside 1 high k) (2 ^ k)) ≡ r
checked_width shares room high k h e f g = checked shares room e f (λ t. let (low, most) = inside_out 1 high k t in bound_of_width g (omega arith))

-- of the shares alone
pub alone : {shares : List ℕ} {room M : ℕ} → Checked shares room M → Checked shares (length shares) M
alone c = record { least = c.least; most = c.most; below = c.below; fits = refl }
