-- The parities moved one after another: which shares that gives, that it is the same as all at once, that the value is kept, and that all shares but the last are then even.
use mathlib.Core.Path.{◌≡◌, refl, sym, ap, ap₂, ◌∙◌}
use mathlib.Core.List.{List}
use Prim.Native.Nat.{ℕ, zero, suc, ◌+◌, ◌-◌, ◌≤◌, ◌<◌}
use native.Mathlib.Nat.{not-suc-le-zero}
use native.Mathlib.Numerals.{add-one}
use native.Mathlib.Omega.{arith}
use native.Mathlib.Decide.{ℕ_discrete}
use lib.ListN.{length, get_or}
use lib.Dec.{eqb}
use borrow.Author.Tests.{eq-eqb, ne_eqb}
use Rattle.numbers.specs.Tests.{pick}
use Rattle.numbers.specs.Modulo.{add_mod, sub_mod}
use Rattle.numbers.specs.Lists.{Words, along, over}
use Rattle.numbers.proofs.AlongLaws.{along_at, along_is, over_more}
use Rattle.words.proofs.WordLaws.{sub_low}
use Rattle.shares.specs.Sharing.{arithmetic, move}
use Rattle.shares.proofs.SharingLaws.{Shares}
use Rattle.shares.proofs.MoveLaws.{move-length, move_to, move_from, move_other, move_keeps}
use Rattle.halves.specs.Halving.{parity, move_parity, evened}

-- ---- the last share with the parities of the first ones
-- where the parities move, the last share with those of the first k shares added
unfoldable pub gathered : ℕ → List ℕ → ℕ → ℕ → ℕ
gathered M xs last k = over (λ i e. add_mod M e (parity (get_or xs i 0))) k (get_or xs last 0)

-- and the word that takes the place of x at i: the last share so gathered, or x without its parity
abbrev pub settled : ℕ → ℕ → ℕ → ℕ → ℕ
settled last end i x = pick (eqb i last) end (x - parity x)

module _ (M : ℕ) (xs : List ℕ) (last : ℕ) where
  gathered-start : gathered M xs last 0 ≡ get_or xs last 0
  unfolding gathered over
  gathered-start = refl

  gathered_more : (i : ℕ) → gathered M xs last (i + 1) ≡ add_mod M (gathered M xs last i) (parity (get_or xs i 0))
  unfolding gathered
  gathered_more i = over_more _ i (get_or xs last 0)

-- ---- the shares after k moves
module _ (M : ℕ) (xs : List ℕ) (last : ℕ) where
  record Moved (k : ℕ) (ys : List ℕ) : Type 0 where
    kept : length ys ≡ length xs
    before : (j : ℕ) → j < k → get_or ys j 0 ≡ get_or xs j 0 - parity (get_or xs j 0)
    since : (j : ℕ) → k ≤ j → j < last → get_or ys j 0 ≡ get_or xs j 0
    end : get_or ys last 0 ≡ gathered M xs last k

  module _ (w : Words (length xs) M xs) (two : 2 ≤ M) (h : last < length xs) where
    moved_start : Moved 0 xs
    moved_start = record { kept = refl; before = λ j l. absurd (not-suc-le-zero l); since = λ j k l. refl; end = sym (gathered-start M xs last) }

    -- a word has at least its parity
    without : (x : ℕ) → x < M → sub_mod M x (parity x) ≡ x - parity x
    without x l = sym (sub_low l (omega arith) (omega arith))

    moved_more : (k : ℕ) (ys : List ℕ) → k < last → Moved k ys → Moved (suc k) (move_parity M last k ys)
    unfolding move_parity
    moved_more k ys l a =
        record {
          kept = move-length (arithmetic M) k last p ys ∙ a.kept;
          before = λ j m. go j m (ℕ_discrete j k);
          since = λ j m o. move_other (arithmetic M) k last p ys j (omega arith) (omega arith) ∙ a.since j (omega arith) o;
          end =
              move_to (arithmetic M) k last p ys (omega arith) (omega (arith, a.kept)) ∙ ap₂ (λ (e x : ℕ). add_mod M e (parity x)) a.end own
              ∙ sym (gathered_more M xs last k) ∙ ap (gathered M xs last) (add-one k);
        }
      where
        p : ℕ
        p = parity (get_or ys k 0)

        own : get_or ys k 0 ≡ get_or xs k 0
        own = a.since k (omega arith) l

        go : (j : ℕ) → j < suc k → Dec (j ≡ k) → get_or (move (arithmetic M) k last p ys) j 0 ≡ get_or xs j 0 - parity (get_or xs j 0)
        go j m (yes e) = rw e (move_from (arithmetic M) k last p ys (omega arith) (omega (arith, a.kept)) ∙ ap (λ x. sub_mod M x (parity x)) own ∙ without (get_or xs k 0) (w.below k (omega arith)))
        go j m (no n) = move_other (arithmetic M) k last p ys j (omega arith) n ∙ a.before j (omega (arith, n))

    moved_all : (k : ℕ) → k ≤ last → Moved k (over (move_parity M last) k xs)
    unfolding over
    moved_all zero l = moved_start
    moved_all (suc k) l = moved_more k _ l (moved_all k (omega arith))

-- so one after another is the same as all at once
pub evened_is : (M : ℕ) (xs : List ℕ) → Words (length xs) M xs → 2 ≤ M → 0 < length xs →
    evened M xs ≡ along (settled (length xs - 1) (gathered M xs (length xs - 1) (length xs - 1))) xs
unfolding evened
evened_is M xs w two h = along_is _ xs _ a.kept (λ j l. go j l (ℕ_discrete j last))
  where
    last : ℕ
    last = length xs - 1

    a : Moved M xs last last (over (move_parity M last) last xs)
    a = moved_all M xs last w two (omega arith) last (omega arith)

    go : (j : ℕ) → j < length xs → Dec (j ≡ last) → get_or (over (move_parity M last) last xs) j 0 ≡ settled last (gathered M xs last last) j (get_or xs j 0)
    go j l (yes e) = rw (eq-eqb j last e) (rw e a.end)
    go j l (no n) = rw (ne_eqb j last n) (a.before j (omega (arith, n)))

-- ---- what the moves keep, and what they give
pub evened_keeps : (M n v : ℕ) (xs : List ℕ) → 2 ≤ M → 0 < n → Shares (arithmetic M) n v xs → Shares (arithmetic M) n v (evened M xs)
unfolding evened over move_parity
evened_keeps M n v xs two h a = go (length xs - 1) (omega (arith, a.words.size))
  where
    go : (k : ℕ) → k < n → Shares (arithmetic M) n v (over (move_parity M (length xs - 1)) k xs)
    go zero l = a
    go (suc k) l = move_keeps (arithmetic M) (omega arith) k (length xs - 1) _ (omega arith) (omega arith) (omega (arith, a.words.size)) (go k (omega arith))

-- all shares but the last are even
pub evened_even : (M : ℕ) (xs : List ℕ) → Words (length xs) M xs → 2 ≤ M → 0 < length xs → (j : ℕ) → j < length xs - 1 → parity (get_or (evened M xs) j 0) ≡ 0
evened_even M xs w two h j l =
    let e : get_or (evened M xs) j 0 ≡ get_or xs j 0 - parity (get_or xs j 0) =
    ap (λ (ys : List ℕ). get_or ys j 0) (evened_is M xs w two h) ∙ along_at _ xs j (omega arith) ∙ rw (ne_eqb j (length xs - 1) (omega arith)) in
    rw e (omega arith)
