-- Laws of both kinds of sharing: their words form a group, and are put together to their value.
use mathlib.Core.Path.{◌≡◌, refl, subst, ◌∙◌}
use mathlib.Core.List.{List}
use Prim.Native.Nat.{ℕ, ◌<◌}
use Rattle.numbers.specs.Lists.{Words, fold, xor_all}
use Rattle.numbers.proofs.GroupLaws.{Group, sums, xors}
use Rattle.numbers.proofs.FoldLaws.{fold-sum, fold_below}
use Rattle.shares.specs.Sharing.{Sharing, arithmetic, boolean, bound, value, plus, minus}

-- n shares that recombine to v
pub record Shares (s : Sharing) (n v : ℕ) (xs : List ℕ) : Type 0 where
  pub words : Words n (bound s) xs
  pub is : value s xs ≡ v

pub group : (s : Sharing) → 0 < bound s → Group (bound s) (plus s) (minus s)
group (arithmetic M) h = sums M h
group (boolean k) h = xors k

pub fold-value : (s : Sharing) → 0 < bound s → (xs : List ℕ) → fold (plus s) xs ≡ value s xs
unfolding xor_all
fold-value (arithmetic M) h xs = fold-sum M h xs
fold-value (boolean k) h xs = refl

-- and that is below M, or below 2^k
pub value_below : (s : Sharing) → 0 < bound s → {n v : ℕ} {xs : List ℕ} → Shares s n v xs → v < bound s
value_below s pos {xs = xs} a = subst (λ (x : ℕ). x < bound s) (fold-value s pos xs ∙ a.is) (fold_below (group s pos) xs a.words)
