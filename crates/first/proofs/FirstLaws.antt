-- A number added to the first share, or taken from it: in an array and in the shares that it begins with, their words, and the value.
use mathlib.Core.Path.{◌≡◌}
use mathlib.Core.List.{List}
use Prim.Native.Nat.{ℕ, ◌<◌}
use lib.ListN.{take}
use Rattle.numbers.specs.Lists.{Words}
use Rattle.numbers.proofs.WordsLaws.{words_at, words_change, take-change}
use Rattle.shares.specs.Sharing.{Sharing, bound, plus, minus}
use Rattle.shares.proofs.SharingLaws.{Shares, group}
use Rattle.shares.proofs.MoveLaws.{added-value, taken-value}
use Rattle.first.specs.First.{add_to_first, take_from_first}

module _ (s : Sharing) (r : ℕ) where
  pub added-take : (n : ℕ) (xs : List ℕ) → 0 < n → take n (add_to_first s r xs) ≡ add_to_first s r (take n xs)
  unfolding add_to_first
  added-take n xs h = take-change (λ x. plus s x r) n 0 xs h

  pub taken-take : (n : ℕ) (xs : List ℕ) → 0 < n → take n (take_from_first s r xs) ≡ take_from_first s r (take n xs)
  unfolding take_from_first
  taken-take n xs h = take-change (λ x. minus s x r) n 0 xs h

  module _ (pos : 0 < bound s) (below : r < bound s) where
    pub added_words : {n : ℕ} {xs : List ℕ} → Words n (bound s) xs → Words n (bound s) (add_to_first s r xs)
    unfolding add_to_first
    added_words w = words_change (λ x. plus s x r) 0 w ((group s pos).add_below _ r (words_at pos w 0) below)

    pub taken_words : {n : ℕ} {xs : List ℕ} → Words n (bound s) xs → Words n (bound s) (take_from_first s r xs)
    unfolding take_from_first
    taken_words w = words_change (λ x. minus s x r) 0 w ((group s pos).sub_below _ r (words_at pos w 0) below)

    pub added_first : {n v : ℕ} {xs : List ℕ} → 0 < n → Shares s n v xs → Shares s n (plus s v r) (add_to_first s r xs)
    unfolding add_to_first
    added_first h a = added-value s pos 0 r below h a

    pub taken_first : {n v : ℕ} {xs : List ℕ} → 0 < n → Shares s n v xs → Shares s n (minus s v r) (take_from_first s r xs)
    unfolding take_from_first
    taken_first h a = taken-value s pos 0 r below h a
