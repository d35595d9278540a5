-- Laws of the pass that makes the steps after the shared parity at once.
use mathlib.Core.Path.{◌≡◌, refl, sym, ap, ap₂, ◌∙◌}
use mathlib.Core.List.{List}
use Prim.Native.Nat.{ℕ, zero, suc, ◌+◌, ◌-◌, ◌*◌, ◌/◌, ◌≤◌, ◌<◌}
use native.Mathlib.Omega.{arith}
use native.Mathlib.Decide.{ℕ_discrete}
use lib.ListN.{length, get_or, set, take, length-set}
use lib.Seq.{get_or-take, length-take-le, get_or-set_same, get_or-set_other}
use borrow.Author.Tests.{eq-eqb, ne_eqb}
use Rattle.numbers.specs.Modulo.{add_mod, sub_mod}
use Rattle.numbers.specs.Lists.{Words, along, over}
use Rattle.numbers.proofs.GroupLaws.{sums}
use Rattle.numbers.proofs.WordsLaws.{words_set}
use Rattle.numbers.proofs.AlongLaws.{length-along, along_at, along_is, over_more}
use Rattle.halves.specs.Halving.{parity, less, evened, halves}
use Rattle.halves.proofs.EvenLaws.{gathered, settled, evened_is}

-- the parities of the first k words, added modulo M
unfoldable pub total : ℕ → List ℕ → ℕ → ℕ
total M xs k = over (λ i e. add_mod M e (parity (get_or xs i 0))) k 0

-- gathered one after another they are the same as added first
gathered_total : (M : ℕ) → 0 < M → (xs : List ℕ) (last k : ℕ) → get_or xs last 0 < M → gathered M xs last k ≡ add_mod M (get_or xs last 0) (total M xs k)
unfolding gathered total over
gathered_total M h xs last zero l = sym ((sums M h).zero (get_or xs last 0) l)
gathered_total M h xs last (suc k) l =
    ap (λ e. add_mod M e (parity (get_or xs k 0))) (gathered_total M h xs last k l) ∙ (sums M h).assoc (get_or xs last 0) (total M xs k) (parity (get_or xs k 0))

total_start : (M : ℕ) (xs : List ℕ) → 0 ≡ total M xs 0
unfolding total over
total_start M xs = refl

total_more : (M : ℕ) (xs : List ℕ) (i : ℕ) → total M xs (i + 1) ≡ add_mod M (total M xs i) (parity (get_or xs i 0))
unfolding total
total_more M xs i = over_more _ i 0

-- a share with its share of A subtracted
pub less_at : (M n : ℕ) (ps ws : List ℕ) (i : ℕ) → i < n → n ≤ length ws → get_or (less M (take n ps) (take n ws)) i 0 ≡ sub_mod M (get_or ws i 0) (get_or ps i 0)
unfolding less
less_at M n ps ws i h l = along_at _ (take n ws) i (omega (arith, length-take-le n ws l)) ∙ ap₂ (sub_mod M) (get_or-take n ws i 0 h) (get_or-take n ps i 0 h)

-- at turn i, the words before i are halves of zs, and sum has their parities
pub record Finishing (m n : ℕ) (zs : List ℕ) (i sum : ℕ) (words : List ℕ) : Type 0 where
  pub most : i < n
  pub below : sum < 2 * m
  pub is : sum ≡ total (2 * m) zs i
  pub all : Words 8 m words
  pub before : (j : ℕ) → j < i → get_or words j 0 ≡ get_or zs j 0 / 2

pub finishing_start : {m n : ℕ} {zs : List ℕ} {words : List ℕ} → 0 < m → 0 < n → Words 8 m words → Finishing m n zs 0 0 words
finishing_start {m} {n} {zs} h l w = record { most = l; below = omega arith; is = total_start (2 * m) zs; all = w; before = λ j k. absurd (omega arith) }

module _ {m n : ℕ} {zs : List ℕ} {i sum : ℕ} {words : List ℕ} (a : Finishing m n zs i sum words) (room : n ≤ 8) where
  -- the word v at place i
  placed : (v : ℕ) → get_or (set words i v) i 0 ≡ v
  placed v = get_or-set_same words i v 0 (omega (arith, a.most, a.all.size))

  pub finishing_more : {d v : ℕ} → i + 1 < n → d ≡ get_or zs i 0 → d < 2 * m → v ≡ add_mod (2 * m) sum (parity d) → Finishing m n zs (i + 1) v (set words i (d / 2))
  finishing_more {d} {v} h e l f =
      record {
        most = h;
        below = rw f ((sums (2 * m) (omega arith)).add_below sum (parity d) a.below (omega arith));
        is = f ∙ ap₂ (λ (s x : ℕ). add_mod (2 * m) s (parity x)) a.is e ∙ sym (total_more (2 * m) zs i);
        all = words_set a.all i (omega arith);
        before = λ j k. go j k (ℕ_discrete j i);
      }
    where
      go : (j : ℕ) → j < i + 1 → Dec (j ≡ i) → get_or (set words i (d / 2)) j 0 ≡ get_or zs j 0 / 2
      go j k (yes g) = rw g (placed (d / 2) ∙ ap (λ (x : ℕ). x / 2) e)
      go j k (no g) = get_or-set_other words i j (d / 2) 0 g ∙ a.before j (omega (arith, g))

  pub finishing_all : {d v : ℕ} → i + 1 ≡ n → d ≡ get_or zs i 0 → v ≡ add_mod (2 * m) d sum → 0 < m → Words n (2 * m) zs →
      Words 8 m (set words i (v / 2)) × (take n (set words i (v / 2)) ≡ halves (evened (2 * m) zs))
  unfolding halves
  finishing_all {d} {v} end e f h w = (words_set a.all i (omega (arith, small)), along_is (λ j x. x / 2) (evened M zs) (take n rs) sizes (λ j k. at j (omega (arith, size))))
    where
      M : ℕ
      M = 2 * m

      rs : List ℕ
      rs = set words i (v / 2)

      small : v < 2 * m
      small = rw f ((sums (2 * m) (omega arith)).add_below d sum (rw e (w.below i a.most)) a.below)

      last : length zs - 1 ≡ i
      last = omega (arith, w.size)

      evens : evened M zs ≡ along (settled i (gathered M zs i i)) zs
      evens = evened_is M zs (record { size = refl; below = λ j k. w.below j (omega (arith, w.size)) }) (omega arith) (omega (arith, w.size, a.most)) ∙ rw last

      size : length (evened M zs) ≡ n
      size = rw evens (length-along _ zs ∙ w.size)

      sizes : length (take n rs) ≡ length (evened M zs)
      sizes = length-take-le n rs (omega (arith, length-set words i (v / 2), a.all.size)) ∙ sym size

      at : (j : ℕ) → j < n → get_or (take n rs) j 0 ≡ get_or (evened M zs) j 0 / 2
      at j k = get_or-take n rs j 0 k ∙ go (ℕ_discrete j i) ∙ sym (ap (λ (x : ℕ). x / 2) (ap (λ (l : List ℕ). get_or l j 0) evens ∙ along_at _ zs j (omega (arith, w.size))))
        where
          go : Dec (j ≡ i) → get_or rs j 0 ≡ settled i (gathered M zs i i) j (get_or zs j 0) / 2
          go (yes g) =
              rw (eq-eqb j i g) (ap (λ (x : ℕ). get_or rs x 0) g ∙ placed (v / 2)
              ∙ ap (λ (x : ℕ). x / 2) (f ∙ ap₂ (add_mod M) e a.is ∙ sym (gathered_total M (omega arith) zs i i (w.below i a.most))))
          go (no g) = rw (ne_eqb j i g) (get_or-set_other words i j (v / 2) 0 g ∙ a.before j (omega (arith, g)) ∙ omega arith)
