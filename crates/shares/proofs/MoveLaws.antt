-- A number added to a share, taken from one, or moved from one to another: which shares change, that their words stay below the bound, and
-- what becomes of the value.
use mathlib.Core.Path.{◌≡◌, sym, ap, ◌∙◌}
use mathlib.Core.Logic.{◌≢◌}
use mathlib.Core.List.{List}
use Prim.Native.Nat.{ℕ, ◌<◌}
use native.Mathlib.Omega.{arith}
use lib.ListN.{length, get_or, take}
use Rattle.numbers.specs.Lists.{Words, fold, change}
use Rattle.numbers.proofs.GroupLaws.{add_cancel, add-sub}
use Rattle.numbers.proofs.WordsLaws.{words_at, words_change, length-change, change_here, change_other, take-change}
use Rattle.numbers.proofs.FoldLaws.{fold_below, fold-add, fold-sub}
use Rattle.shares.specs.Sharing.{Sharing, bound, plus, minus, move}
use Rattle.shares.proofs.SharingLaws.{Shares, group, fold-value, value_below}

module _ (s : Sharing) (from to r : ℕ) (xs : List ℕ) where
  pub move-length : length (move s from to r xs) ≡ length xs
  unfolding move
  move-length = length-change _ from (change (λ x. plus s x r) to xs) ∙ length-change (λ x. plus s x r) to xs

  pub move_to : to ≢ from → to < length xs → get_or (move s from to r xs) to 0 ≡ plus s (get_or xs to 0) r
  unfolding move
  move_to n h = change_other _ from (change (λ x. plus s x r) to xs) to n ∙ change_here (λ x. plus s x r) to xs h

  pub move_from : from ≢ to → from < length xs → get_or (move s from to r xs) from 0 ≡ minus s (get_or xs from 0) r
  unfolding move
  move_from n h =
      change_here (λ x. minus s x r) from (change (λ x. plus s x r) to xs) (omega (arith, length-change (λ x. plus s x r) to xs))
      ∙ ap (λ x. minus s x r) (change_other (λ x. plus s x r) to xs from n)

  pub move_other : (j : ℕ) → j ≢ to → j ≢ from → get_or (move s from to r xs) j 0 ≡ get_or xs j 0
  unfolding move
  move_other j a b = change_other _ from (change (λ x. plus s x r) to xs) j b ∙ change_other (λ x. plus s x r) to xs j a

  -- within the first n
  pub move-take : (n : ℕ) → from < n → to < n → take n (move s from to r xs) ≡ move s from to r (take n xs)
  unfolding move
  move-take n a b =
      take-change (λ x. minus s x r) n from (change (λ x. plus s x r) to xs) a
      ∙ ap (change (λ x. minus s x r) from) (take-change (λ x. plus s x r) n to xs b)

-- a number added to a share is added to the value, and one taken from a share is taken from it
module _ (s : Sharing) (pos : 0 < bound s) (i r : ℕ) (h : r < bound s) {n v : ℕ} {xs : List ℕ} (l : i < n) (a : Shares s n v xs) where
  open group s pos use {add_below, sub_below, sub-add}

  pub added-value : Shares s n (plus s v r) (change (λ x. plus s x r) i xs)
  added-value =
      record {
        words = words_change (λ x. plus s x r) i a.words (add_below (get_or xs i 0) r (words_at pos a.words i) h);
        is =
            sym (fold-value s pos (change (λ x. plus s x r) i xs)) ∙ fold-add (group s pos) i r xs h a.words (omega (arith, a.words.size))
            ∙ ap (λ x. plus s x r) (fold-value s pos xs ∙ a.is);
      }

  pub taken-value : Shares s n (minus s v r) (change (λ x. minus s x r) i xs)
  taken-value =
      let t : List ℕ = change (λ x. minus s x r) i xs in
      let w : Words n (bound s) t = words_change (λ x. minus s x r) i a.words (sub_below (get_or xs i 0) r (words_at pos a.words i) h) in
      let f : ℕ = fold (plus s) xs in
      let below : f < bound s = fold_below (group s pos) xs a.words in
      record {
        words = w;
        is =
            sym (fold-value s pos t)
            ∙ add_cancel (group s pos) (fold (plus s) t) (minus s f r) r (fold_below (group s pos) t w) (sub_below f r below h) h
            (fold-sub (group s pos) i r xs h a.words (omega (arith, a.words.size)) ∙ sym (sub-add f r below h))
            ∙ ap (λ x. minus s x r) (fold-value s pos xs ∙ a.is);
      }

-- so to move one keeps the value
pub move_keeps : (s : Sharing) → 0 < bound s → (from to r : ℕ) → r < bound s → {n : ℕ} {xs : List ℕ} {v : ℕ} → from < n → to < n → Shares s n v xs → Shares s n v (move s from to r xs)
unfolding move
move_keeps s pos from to r h {v = v} hf ht a =
    let b = taken-value s pos from r h hf (added-value s pos to r h ht a) in
    record { words = b.words; is = b.is ∙ add-sub (group s pos) v r (value_below s pos a) h }
