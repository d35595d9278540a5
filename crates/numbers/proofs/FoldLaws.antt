-- Laws of words put together: sums modulo M and exclusive or alike, over any group of words below M.
use mathlib.Core.Path.{◌≡◌, refl, sym, ap, ap₂, ◌∙◌}
use mathlib.Core.List.{List, [], ◌∷◌}
use Prim.Native.Nat.{ℕ, zero, suc, ◌+◌, ◌%◌, ◌<◌}
use native.Mathlib.Nat.{le_of_suc-le-suc, add-mod-mod, mod-eq_of_lt}
use native.Mathlib.Omega.{arith}
use lib.ListN.{length, get_or, set, replicate, length-set}
use lib.Seq.{get_or-set_same, set-set}
use Rattle.numbers.specs.Modulo.{add_mod}
use Rattle.numbers.specs.Lists.{Words, fold, sum, change}
use Rattle.numbers.proofs.GroupLaws.{Group, add_swap, add_cancel}
use Rattle.numbers.proofs.WordsLaws.{words_head, words_tail, words_at, words_set, words_change}

-- put together modulo M at every step, or at the end
pub fold-sum : (M : ℕ) → 0 < M → (xs : List ℕ) → fold (add_mod M) xs ≡ sum xs % M
unfolding fold add_mod sum
fold-sum M h [] = sym (mod-eq_of_lt h)
fold-sum M h (x ∷ xs) = ap (λ (s : ℕ). (x + s) % M) (fold-sum M h xs) ∙ add-mod-mod x (sum xs) M

pub fold_zeros : (add : ℕ → ℕ → ℕ) → add 0 0 ≡ 0 → (k : ℕ) → fold add (replicate k 0) ≡ 0
unfolding fold
fold_zeros add e zero = refl
fold_zeros add e (suc k) = ap (add 0) (fold_zeros add e k) ∙ e

module _ {M : ℕ} {add sub : ℕ → ℕ → ℕ} (G : Group M add sub) where
  open G use {positive, add_below, sub_below, comm, assoc, sub-add}

  pub fold_below : {n : ℕ} (xs : List ℕ) → Words n M xs → fold add xs < M
  unfolding fold
  fold_below [] w = positive
  fold_below {n = zero} (x ∷ xs) w = absurd (omega (arith, w.size))
  fold_below {n = suc n} (x ∷ xs) w = add_below x (fold add xs) (words_head w) (fold_below xs (words_tail w))

  -- one word replaced
  fold-set : (xs : List ℕ) (i v : ℕ) → i < length xs → add (fold add (set xs i v)) (get_or xs i 0) ≡ add (fold add xs) v
  unfolding fold
  fold-set [] i v h = absurd (omega arith)
  fold-set (x ∷ xs) zero v h =
      add_swap G v (fold add xs) x ∙ ap (λ (y : ℕ). add y (fold add xs)) (comm v x) ∙ add_swap G x v (fold add xs)
  fold-set (x ∷ xs) (suc i) v h =
      assoc x (fold add (set xs i v)) (get_or xs i 0) ∙ ap (add x) (fold-set xs i v (le_of_suc-le-suc h)) ∙ sym (assoc x (fold add xs) v)

  module _ {n : ℕ} (i r : ℕ) (xs : List ℕ) (hr : r < M) (w : Words n M xs) (h : i < length xs) where
    x : ℕ
    x = get_or xs i 0

    s : ℕ
    s = fold add xs

    hx : x < M
    unfolding x
    hx = words_at positive w i

    -- r added to one word
    pub fold-add : fold add (change (λ y. add y r) i xs) ≡ add (fold add xs) r
    unfolding change x s hx
    fold-add =
        let t : ℕ = fold add (set xs i (add x r)) in
        let ht : t < M = fold_below (set xs i (add x r)) (words_change (λ y. add y r) i w (add_below x r hx hr)) in
        add_cancel G t (add s r) x ht (add_below s r (fold_below xs w) hr) hx
        (fold-set xs i (add x r) h ∙ sym (assoc s x r) ∙ add_swap G s x r)

    -- r taken from one word
    pub fold-sub : add (fold add (change (λ y. sub y r) i xs)) r ≡ fold add xs
    unfolding change x s hx
    fold-sub =
        let t : ℕ = fold add (set xs i (sub x r)) in
        let ht : t < M = fold_below (set xs i (sub x r)) (words_change (λ y. sub y r) i w (sub_below x r hx hr)) in
        add_cancel G (add t r) s x (add_below t r ht hr) (fold_below xs w) hx
        (add_swap G t r x ∙ ap (λ (y : ℕ). add y r) (fold-set xs i (sub x r) h) ∙ assoc s (sub x r) r ∙ ap (add s) (sub-add x r hx hr))

  -- one word put in where there was 0
  pub fold_at : {n : ℕ} (i x : ℕ) (xs : List ℕ) → x < M → Words n M xs → i < length xs → fold add (set xs i x) ≡ add (fold add (set xs i 0)) x
  fold_at i x xs h w l =
      let ys : List ℕ = set xs i 0 in
      let s : ℕ = fold add (set xs i x) in
      sym (G.zero s (fold_below (set xs i x) (words_set w i h)))
      ∙ ap₂ (λ (a : List ℕ) (b : ℕ). add (fold add a) b) (sym (set-set xs i 0 x)) (sym (get_or-set_same xs i 0 0 l))
      ∙ fold-set ys i x (omega (arith, length-set xs i 0))
