-- Laws of the product, as the code goes through it.
use mathlib.Core.Path.{◌≡◌, sym, ap, ap₂, ◌∙◌}
use mathlib.Core.List.{List}
use Prim.Native.Nat.{ℕ, ◌+◌, ◌-◌, ◌*◌, ◌%◌, ◌≤◌, ◌<◌}
use native.Mathlib.Nat.{mod-lt, mod-eq_of_lt, mul-le-mul_left, mul-le-mul_right, le_of_lt}
use native.Mathlib.Omega.{arith}
use lib.ListN.{length, get_or, take, set}
use lib.Seq.{length-take-le, get_or-take}
use Rattle.numbers.specs.Modulo.{q, add_mod, sub_mod}
use Rattle.numbers.specs.Lists.{Words, change}
use Rattle.numbers.proofs.AlongLaws.{along_at, length-along, take-along}
use Rattle.numbers.proofs.GroupLaws.{sums}
use Rattle.numbers.proofs.WordsLaws.{words_at, words_change, take-change}
use Rattle.tape.specs.declared.Cursor.{Cursor}
use Rattle.tape.specs.Tape.{Ran, ended, ran, draw_at}
use Rattle.draws.specs.Draws.{each, run}
use Rattle.draws.proofs.DrawnLaws.{draw_below}
use Rattle.draws.proofs.RunLaws.{run_draw, run_ended, run_done}
use Rattle.shares.specs.Arrays.{Held}
use Rattle.shares.proofs.ArraysLaws.{held_of}
use Rattle.shares.proofs.LoopLaws.{Looping, looping_ended, looping_more}
use Rattle.sizes.specs.Product.{begun, cross, crossed, pair, row, product}

-- l·r of two words below q has 46 bits, and the sum of two such products less v still fits into 64
pub times_most : {a b : ℕ} → a < q → b < q → a * b ≤ q * q
times_most {a} {b} ha hb = omega (arith, mul-le-mul_left a (le_of_lt hb), mul-le-mul_right q (le_of_lt ha))

pub less_is : {v : ℕ} (x : ℕ) → v < q → (x + (q - v)) % q ≡ sub_mod q x v
unfolding sub_mod
less_is {v} x h = ap (λ (w : ℕ). (x + (q - w)) % q) (sym (mod-eq_of_lt h))

module _ (M : ℕ) (ls rs : List ℕ) where
  pub begun_words : {n : ℕ} → 0 < M → length ls ≡ n → Words n M (begun M ls rs)
  unfolding begun
  begun_words some e = record { size = length-along _ ls ∙ e; below = λ i h. rw (along_at (λ i l. l * get_or rs i 0 % M) ls i (omega (arith, e))) (mod-lt _ some) }

  pub begun-take : (n : ℕ) → take n (begun M ls rs) ≡ begun M (take n ls) (take n rs)
  unfolding begun
  begun-take n = take-along _ _ n ls (λ i l h. ap (λ (r : ℕ). l * r % M) (sym (get_or-take n rs i 0 h)))

  module _ (i j : ℕ) where
    pub crossed_words : (v : ℕ) {n : ℕ} {xs : List ℕ} → 0 < M → v < M → Words n M xs → Words n M (crossed M ls rs i j v xs)
    unfolding crossed sub_mod
    crossed_words v some h w =
        let g = sums M some in
        let u = words_change (λ x. add_mod M x v) i w (g.add_below _ v (words_at some w i) h) in
        words_change _ j u (g.add_below _ _ (words_at some u j) (mod-lt _ some))

    -- within the first n
    pub crossed-take : (n v : ℕ) (xs : List ℕ) → i < n → j < n → take n (crossed M ls rs i j v xs) ≡ crossed M (take n ls) (take n rs) i j v (take n xs)
    unfolding crossed
    crossed-take n v xs hi hj =
        let same : cross ls rs i j ≡ cross (take n ls) (take n rs) i j =
        sym (rw (get_or-take n ls i 0 hi, get_or-take n ls j 0 hj, get_or-take n rs i 0 hi, get_or-take n rs j 0 hj)) in
        take-change _ n j (change (λ x. add_mod M x v) i xs) hj ∙ ap₂ (λ (c : ℕ) ys. change (λ x. add_mod M x (sub_mod M c v)) j ys) same (take-change (λ x. add_mod M x v) n i xs hi)

-- the words i and j stored one after the other
pub crossed_stored : (M : ℕ) (ls rs : List ℕ) (i j v : ℕ) (xs : List ℕ) {a b : ℕ} → a ≡ add_mod M (get_or xs i 0) v →
    b ≡ add_mod M (get_or (set xs i a) j 0) (sub_mod M (cross ls rs i j) v) → set (set xs i a) j b ≡ crossed M ls rs i j v xs
unfolding crossed change
crossed_stored M ls rs i j v xs e f = rw (f, e)

-- ---- the pairs of share i, from pair j on
pub record Crossing (M n : ℕ) (ls rs : List ℕ) (i : ℕ) (tape : List ℕ) (x : Ran (List ℕ)) (j : ℕ) (words : List ℕ) (p : Cursor) : Type 0 where
  pub later : i < j
  pub left : Looping (pair M (take n ls) (take n rs) i) n 8 n M tape x j words p

pub crossing_start : {M n : ℕ} (ls rs : List ℕ) (i : ℕ) (tape : List ℕ) (p : Cursor) {words : List ℕ} → Held 8 n M words → length ls ≡ 8 →
    Crossing M n ls rs i tape (run (row M (take n ls) (take n rs) i (take n words)) tape p) (i + 1) words p
unfolding row
crossing_start {M} {n} ls rs i tape p {words} a e =
    record {
      later = omega arith;
      left =
          record {
            held = a;
            same = ap (λ (k : ℕ). run (each (pair M (take n ls) (take n rs) i) (i + 1) k (take n words)) tape p) (sym (length-take-le n ls (omega (arith, a.most))));
          };
    }

module _ {M n : ℕ} {ls rs : List ℕ} {i : ℕ} {tape : List ℕ} {x : Ran (List ℕ)} {j : ℕ} {words : List ℕ} {p : Cursor}
    (a : Crossing M n ls rs i tape x j words p) (h : j < n) where
  -- the tape has ended
  pub crossing_ended : ended ≡ draw_at tape p M → x ≡ ended
  unfolding pair
  crossing_ended e = looping_ended a.left h (run_ended M _ tape p (sym e))

  module _ {v : ℕ} {c : Cursor} (e : ran v c ≡ draw_at tape p M) where
    pub crossing_draw : v < M
    crossing_draw = draw_below tape p e

    pub crossing_more : {others : List ℕ} → others ≡ crossed M ls rs i j v words → Crossing M n ls rs i tape x (j + 1) others c
    unfolding pair
    crossing_more f =
        record {
          later = omega (arith, a.later);
          left =
              looping_more a.left h
              (run_draw M _ tape p v c (sym e) ∙ run_done _ tape c
              ∙ ap (λ xs. ran xs c) (sym (ap (take n) f ∙ crossed-take M ls rs i j n v words (omega (arith, a.later)) h)))
              (rw f (crossed_words M ls rs i j v (omega (arith, a.left.held.two)) crossing_draw a.left.held.all));
        }

-- ---- where the loop of the rows begins
module _ {M n : ℕ} (ls rs : List ℕ) (tape : List ℕ) (p : Cursor) where
  pub product-start : Held 8 n M ls → {words : List ℕ} → words ≡ begun M ls rs →
      Looping (row M (take n ls) (take n rs)) n 8 n M tape (run (product M (take n ls) (take n rs)) tape p) 0 words p
  unfolding product
  product-start a {words} e =
      record {
        held = held_of a (rw e (begun_words M ls rs (omega (arith, a.two)) a.all.size));
        same =
            ap₂ (λ (k : ℕ) ys. run (each (row M (take n ls) (take n rs)) 0 k ys) tape p) (sym (length-take-le n ls (omega (arith, a.most, a.all.size))))
            (ap (take n) e ∙ begun-take M ls rs n);
      }
