-- What the loop of the opening goes by.
use Rattle.std.proofs.Common.{◌≡◌, sym, ap, ◌∙◌, List, ℕ, ◌+◌, ◌%◌, ◌≤◌, ◌<◌, length, get_or, take, arith}
use native.Mathlib.Nat.{mod-lt, mod-add-mod, zero-mod}
use native.Mathlib.Numerals.{add-one}
use lib.Seq.{take-length}
use Rattle.numbers.specs.Modulo.{add_mod}
use Rattle.numbers.specs.Lists.{fold, sum}
use Rattle.numbers.proofs.SumLaws.{sum_more}

-- the sum mod M of the first i shares
pub record Opening (M : ℕ) (xs : List ℕ) (i s : ℕ) : Type 0 where
  pub most : i ≤ length xs
  pub is : s ≡ sum (take i xs) % M

pub opening_start : (M : ℕ) (xs : List ℕ) → Opening M xs 0 0
unfolding sum fold
opening_start M xs = record { most = omega arith; is = sym (zero-mod M) }

module _ {M : ℕ} {xs : List ℕ} {i s : ℕ} (o : Opening M xs i s) where
  pub opening_below : 0 < M → s < M
  opening_below pos = rw o.is (mod-lt (sum (take i xs)) pos)

  pub opening_more : i < length xs → {v : ℕ} → v ≡ add_mod M s (get_or xs i 0) → Opening M xs (i + 1) v
  unfolding add_mod
  opening_more h e =
      record {
        most = omega arith;
        is =
            e ∙ ap (λ (x : ℕ). (x + get_or xs i 0) % M) o.is ∙ mod-add-mod (sum (take i xs)) M (get_or xs i 0)
            ∙ ap (λ (x : ℕ). x % M) (sym (ap (λ (j : ℕ). sum (take j xs)) (add-one i) ∙ sum_more xs i h));
      }

  pub opening_all : length xs ≤ i → s ≡ sum xs % M
  opening_all h = let e : i ≡ length xs = omega (arith, o.most) in o.is ∙ ap (λ (j : ℕ). sum (take j xs) % M) e ∙ ap (λ (ys : List ℕ). sum ys % M) (take-length xs)
