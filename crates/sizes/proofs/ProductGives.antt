-- The shares of the product recombine to the product: over any modulus and any n, whatever the draws.
use mathlib.Core.Path.{◌≡◌, refl, sym, ap, ap₂, subst, ◌∙◌}
use mathlib.Core.List.{List, [], ◌∷◌}
use Prim.Native.Nat.{ℕ, zero, suc, ◌+◌, ◌-◌, ◌*◌, ◌/◌, ◌%◌, ◌≤◌, ◌<◌}
use native.Mathlib.Nat.{sub-zero}
use native.Mathlib.Omega.{arith}
use lib.ListN.{length, get_or, take, drop, replicate, length-drop, drop_of_length-le, replicate-append-replicate}
use lib.Seq.{drop-cons, get_or-drop, take_all}
use Rattle.numbers.specs.Modulo.{add_mod, sub_mod}
use Rattle.numbers.specs.Lists.{Words, fold, sum, along}
use Rattle.numbers.proofs.Cong.{Cong, cong_eq, cong_mod, cong_add, cong_mul, cong_refl, cong_sym, cong_cancel, via, ◌⨾◌}
use Rattle.numbers.proofs.GroupLaws.{sub_small, sub_back}
use Rattle.numbers.proofs.SumLaws.{sum_more}
use Rattle.draws.specs.Draws.{turns, each}
use Rattle.draws.proofs.Outcomes.{Gives}
use Rattle.draws.proofs.PlanLaws.{gives_done, gives_draw, gives_bind, gives_turns, gives_as}
use Rattle.shares.specs.Sharing.{arithmetic}
use Rattle.shares.proofs.SharingLaws.{Shares}
use Rattle.shares.proofs.MoveLaws.{added-value}
use Rattle.sizes.specs.Product.{begun, cross, crossed, pair, row, product, product_plan}
use Rattle.sizes.proofs.ProductSteps.{begun_words}

-- l_1·r_1 + l_2·r_2 + ..
dot : List ℕ → List ℕ → ℕ
dot [] rs = 0
dot (l ∷ ls) [] = 0
dot (l ∷ ls) (r ∷ rs) = l * r + dot ls rs

sum-begun : (M : ℕ) (ls rs : List ℕ) → length ls ≡ length rs → Cong M (sum (begun M ls rs)) (dot ls rs)
unfolding begun along sum fold dot
sum-begun M [] rs e = cong_refl
sum-begun M (l ∷ ls) [] e = absurd (omega arith)
sum-begun M (l ∷ ls) (r ∷ rs) e = cong_add cong_mod (sum-begun M ls rs (omega arith))

-- as many pairs as k shares have
triangle : ℕ → ℕ
triangle zero = 0
triangle (suc k) = k + triangle k

triangle_is : (n : ℕ) → triangle n ≡ n * (n - 1) / 2
unfolding triangle
triangle_is n = let e = twice n in omega arith
  where
    twice : (n : ℕ) → 2 * triangle n ≡ n * (n - 1)
    twice zero = refl
    twice (suc zero) = refl
    twice (suc (suc k)) =
        let one : suc k - 1 ≡ k = omega arith in
        let two : suc (suc k) - 1 ≡ suc k = omega arith in
        let e = rw one at (twice (suc k)) in
        rw two (omega arith)

module _ (M : ℕ) (some : 0 < M) {n : ℕ} (ls rs : List ℕ) (el : length ls ≡ n) (er : length rs ≡ n) where
  -- a pair adds l_i·r_j + l_j·r_i to the value
  crossed-value : (i j v w : ℕ) (xs : List ℕ) → i < n → j < n → v < M → Shares (arithmetic M) n w xs → Shares (arithmetic M) n ((w + cross ls rs i j) % M) (crossed M ls rs i j v xs)
  unfolding crossed add_mod
  crossed-value i j v w xs hi hj hv a =
      let t : ℕ = sub_mod M (cross ls rs i j) v in
      let b = added-value (arithmetic M) some j t (sub_small M (cross ls rs i j) v some) hj (added-value (arithmetic M) some i v hv hi a) in
      record {
        words = b.words;
        is = b.is ∙ (cong_add cong_mod cong_refl ⨾ via (w + (t + v)) (cong_eq (omega arith)) (cong_add cong_refl (sub_back M (cross ls rs i j) v some))).eq;
      }

  pair_gives : (i j w : ℕ) (xs : List ℕ) → i < n → j < n → Shares (arithmetic M) n w xs →
      Gives (Shares (arithmetic M) n ((w + cross ls rs i j) % M)) (pair M ls rs i j xs) (replicate 1 M)
  unfolding pair
  pair_gives i j w xs hi hj a = gives_draw (λ v l. gives_done (crossed-value i j v w xs hi hj l a))

  -- the words after place i, k of them
  abbrev later : ℕ → ℕ → List ℕ → ℕ
  later i k xs = sum (take k (drop (suc i) xs))

  later_more : (i k : ℕ) (xs : List ℕ) → suc i + k < length xs → later i (suc k) xs ≡ later i k xs + get_or xs (suc i + k) 0
  later_more i k xs h =
      sum_more (drop (suc i) xs) k (omega (arith, length-drop (suc i) xs)) ∙ ap (λ (z : ℕ). later i k xs + z) (get_or-drop (suc i) xs k 0)

  -- row i adds l_i times the r after it and r_i times the l after it
  row_adds : ℕ → ℕ → ℕ → ℕ
  row_adds w i k = w + (get_or ls i 0 * later i k rs + later i k ls * get_or rs i 0)

  row_more : (w i k : ℕ) → suc i + k < n → Cong M (row_adds w i k % M + cross ls rs i (suc i + k)) (row_adds w i (suc k))
  unfolding row_adds
  row_more w i k h =
      cong_add cong_mod cong_refl ⨾ cong_eq (rw (later_more i k ls (omega (arith, el)), later_more i k rs (omega (arith, er))) (omega arith))

  -- before pair j of row i
  record Row (w i j : ℕ) (xs : List ℕ) : Type 0 where
    after : suc i ≤ j
    shares : Shares (arithmetic M) n (row_adds w i (j - suc i) % M) xs

  row-turn : (w i j : ℕ) (xs : List ℕ) → i < n → j < n → Row w i j xs → Gives (Row w i (suc j)) (pair M ls rs i j xs) (replicate 1 M)
  row-turn w i j xs hi hj a =
      let k : ℕ = j - suc i in
      let at : suc i + k ≡ j = omega (arith, a.after) in
      let next : suc j - suc i ≡ suc k = omega (arith, a.after) in
      gives_as (λ ys s. record { after = omega (arith, a.after); shares = rw next (record { words = s.words; is = s.is ∙ more k at }) })
      (pair_gives i j (row_adds w i k % M) xs hi hj a.shares)
    where
      more : (k : ℕ) → suc i + k ≡ j → (row_adds w i k % M + cross ls rs i j) % M ≡ row_adds w i (suc k) % M
      more k at = ap (λ (m : ℕ). (row_adds w i k % M + cross ls rs i m) % M) (sym at) ∙ (row_more w i k (omega arith)).eq

  row_gives : (i k w : ℕ) (xs : List ℕ) → suc i + k ≡ n → Shares (arithmetic M) n (w % M) xs → Gives (Shares (arithmetic M) n (row_adds w i k % M)) (row M ls rs i xs) (replicate k M)
  unfolding row each row_adds fold sum
  row_gives i k w xs e a =
      let left : length ls - (i + 1) ≡ k = omega (arith, el) in
      let last : i + 1 + k - suc i ≡ k = omega arith in
      let none : i + 1 - suc i ≡ 0 = omega arith in
      let one : k * 1 ≡ k = omega arith in
      let zero-adds : row_adds w i 0 ≡ w = omega arith in
      rw left
      (subst (λ (d : ℕ). Gives (Shares (arithmetic M) n (row_adds w i k % M)) (turns (pair M ls rs i) (i + 1) k xs) (replicate d M)) one
      (gives_as (λ ys s. subst (λ (m : ℕ). Shares (arithmetic M) n (row_adds w i m % M) ys) last s.shares)
      (gives_turns (Row w i) (pair M ls rs i) 1 M n (λ j ys h b. row-turn w i j ys (omega arith) h b) (i + 1) k xs (omega arith)
      (record { after = omega arith; shares = rw (none, zero-adds) a }))))

  -- after i rows: what is left to add is all products of later l and later r but those at one place
  record Rows (i : ℕ) (xs : List ℕ) : Type 0 where
    words : Words n M xs
    so_far : Cong M (sum xs + sum (drop i ls) * sum (drop i rs)) (sum ls * sum rs + dot (drop i ls) (drop i rs))

  rows_start : Rows 0 (begun M ls rs)
  rows_start = record { words = begun_words M ls rs some el; so_far = cong_add (sum-begun M ls rs (el ∙ sym er)) cong_refl ⨾ cong_eq (omega arith) }

  sum_drop : (xs : List ℕ) (i : ℕ) → i < length xs → sum (drop i xs) ≡ get_or xs i 0 + sum (drop (suc i) xs)
  unfolding sum fold
  sum_drop xs i h = ap (fold ◌+◌) (drop-cons xs i 0 h)

  dot_drop : (i : ℕ) → i < n → dot (drop i ls) (drop i rs) ≡ get_or ls i 0 * get_or rs i 0 + dot (drop (suc i) ls) (drop (suc i) rs)
  unfolding dot
  dot_drop i h = ap₂ dot (drop-cons ls i 0 (omega (arith, el))) (drop-cons rs i 0 (omega (arith, er)))

  -- in numbers: a row adds l·R + L·r to S, for which L-as-R and l·r take the place of (l + L)·(r + R) and l·r + D
  row_adds_up : (S S' l r L R Li Ri D Di X : ℕ) → Cong M S' (S + (l * R + L * r)) → Li ≡ l + L → Ri ≡ r + R → Di ≡ l * r + D →
      Cong M (S + Li * Ri) (X + Di) → Cong M (S' + L * R) (X + D)
  row_adds_up S S' l r L R Li Ri D Di X c eL eR eD ih =
      cong_cancel (l * r)
      (via (S + Li * Ri) (cong_add (cong_add c cong_refl) cong_refl ⨾ cong_eq (rw (eL, eR) (omega arith)))
      (ih ⨾ cong_eq (omega arith)))

  rows_turn : (i k : ℕ) (xs : List ℕ) → suc i + k ≡ n → Rows i xs → Gives (Rows (suc i)) (row M ls rs i xs) (replicate k M)
  unfolding row_adds
  rows_turn i k xs e a =
      let all : (ys : List ℕ) → length ys ≡ n → later i k ys ≡ sum (drop (suc i) ys) = λ ys l. ap sum (take_all k (drop (suc i) ys) (omega (arith, length-drop (suc i) ys))) in
      gives_as (λ ys s.
      record {
        words = s.words;
        so_far =
            row_adds_up (sum xs) (sum ys) (get_or ls i 0) (get_or rs i 0) (sum (drop (suc i) ls)) (sum (drop (suc i) rs)) (sum (drop i ls)) (sum (drop i rs))
            (dot (drop (suc i) ls) (drop (suc i) rs)) (dot (drop i ls) (drop i rs)) (sum ls * sum rs)
            (via (sum ys % M) (cong_sym cong_mod) (cong_eq s.is ⨾ cong_mod ⨾ cong_eq (rw (all ls el, all rs er))))
            (sum_drop ls i (omega (arith, el))) (sum_drop rs i (omega (arith, er))) (dot_drop i (omega arith)) a.so_far;
      })
      (row_gives i k (sum xs) xs e (record { words = a.words; is = refl }))

  rows_give : (i k : ℕ) (xs : List ℕ) → i + k ≡ n → Rows i xs → Gives (Rows n) (turns (row M ls rs) i k xs) (replicate (triangle k) M)
  unfolding turns triangle
  rows_give i zero xs e a = let f : i ≡ n = omega arith in gives_done (subst (λ (m : ℕ). Rows m xs) f a)
  rows_give i (suc k) xs e a =
      subst (λ ms. Gives (Rows n) (turns (row M ls rs) i (suc k) xs) ms) (replicate-append-replicate k (triangle k) M)
      (gives_bind (λ ys. turns (row M ls rs) (suc i) k ys) (replicate (triangle k) M) (rows_turn i k xs (omega arith) a) (λ ys b. rows_give (suc i) k ys (omega arith) b))

  -- after all rows the sum is the product of the sums
  rows_all : (x y : ℕ) → sum ls % M ≡ x → sum rs % M ≡ y → (xs : List ℕ) → Rows n xs → Shares (arithmetic M) n (x * y % M) xs
  unfolding dot sum fold
  rows_all x y ex ey xs a =
      let no-l : drop n ls ≡ [] = drop_of_length-le ls {i = n} (omega (arith, el)) in
      let no-r : drop n rs ≡ [] = drop_of_length-le rs {i = n} (omega (arith, er)) in
      let c : Cong M (sum xs) (sum ls * sum rs) =
      via (sum xs + sum (drop n ls) * sum (drop n rs)) (cong_eq (rw (no-l, no-r) (omega arith))) (a.so_far ⨾ cong_eq (rw no-l (omega arith))) in
      record { words = a.words; is = (c ⨾ cong_mul (via (sum ls % M) (cong_sym cong_mod) (cong_eq ex)) (via (sum rs % M) (cong_sym cong_mod) (cong_eq ey))).eq }

-- the product makes one draw for each pair, and whatever these give, its shares recombine to the product
pub product_gives : {M : ℕ} → 0 < M → {n x y : ℕ} (ls rs : List ℕ) → Shares (arithmetic M) n x ls → Shares (arithmetic M) n y rs →
    Gives (Shares (arithmetic M) n (x * y % M)) (product M ls rs) (product_plan M n)
unfolding product product_plan each
product_gives {M} some {n} {x} {y} ls rs a b =
    let el = a.words.size in
    let er = b.words.size in
    rw (el, ← triangle_is n, sub-zero n)
    (gives_as (λ xs c. rows_all M some ls rs el er x y a.is b.is xs c) (rows_give M some ls rs el er 0 n (begun M ls rs) (omega arith) (rows_start M some ls rs el er)))
