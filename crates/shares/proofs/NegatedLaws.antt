-- All shares negated: in an array and in the shares that it begins with, their words, and the value.
use mathlib.Core.Path.{◌≡◌, refl, sym}
use mathlib.Core.List.{List}
use Prim.Native.Nat.{ℕ, ◌%◌, ◌<◌}
use native.Mathlib.Nat.{mod-lt}
use lib.ListN.{take}
use Rattle.numbers.specs.Modulo.{neg_mod}
use Rattle.numbers.specs.Lists.{Words, sum}
use Rattle.numbers.proofs.Cong.{cong_add, cong_eq, cong_mod, via, ◌⨾◌}
use Rattle.numbers.proofs.GroupLaws.{sub_only, sums}
use Rattle.numbers.proofs.SumLaws.{sum-negated}
use Rattle.numbers.proofs.AlongLaws.{take-along, words_along}
use Rattle.shares.specs.Sharing.{arithmetic, negated}
use Rattle.shares.proofs.SharingLaws.{Shares}

module _ (M : ℕ) where
  pub negated-take : (n : ℕ) (xs : List ℕ) → take n (negated M xs) ≡ negated M (take n xs)
  unfolding negated
  negated-take n xs = take-along _ _ n xs (λ i x h. refl)

  module _ (pos : 0 < M) {n : ℕ} {xs : List ℕ} where
    pub negated_words : Words n M xs → Words n M (negated M xs)
    unfolding negated neg_mod
    negated_words w = words_along _ w (λ i x h l. (sums M pos).sub_below 0 x pos l)

    pub negated-value : {v : ℕ} → Shares (arithmetic M) n v xs → Shares (arithmetic M) n (neg_mod M v) (negated M xs)
    unfolding negated neg_mod
    negated-value a =
        record {
          words = negated_words a.words;
          is = sub_only _ (mod-lt _ pos) (cong_add cong_mod (via (sum xs % M) (cong_eq (sym a.is)) cong_mod) ⨾ sum-negated M pos xs);
        }
