-- Laws of the shared parity in an array: what the loop over the shares goes by.
use mathlib.Core.Path.{◌≡◌, refl, sym, ap, ◌∙◌}
use mathlib.Core.Bool.{Bool, true, false}
use mathlib.Core.List.{List, ◌∷◌}
use Prim.Native.Nat.{ℕ, zero, suc, ◌+◌, ◌-◌, ◌*◌, ◌≤◌, ◌<◌}
use native.Mathlib.Omega.{arith}
use lib.ListN.{length, get_or, set, take, replicate}
use lib.Seq.{length-take-le, get_or-take}
use lib.Dec.{eqb}
use Rattle.numbers.specs.Tests.{pick}
use Rattle.numbers.specs.Modulo.{add_mod, neg_mod}
use Rattle.numbers.specs.Lists.{Words, change, along}
use Rattle.numbers.proofs.GroupLaws.{sums}
use Rattle.numbers.proofs.WordsLaws.{words_at, words_same, take-replicate}
use Rattle.numbers.proofs.AlongLaws.{along_is, change_first, words_along, Along, along-start, along_more, along_below}
use Rattle.tape.specs.declared.Cursor.{Cursor}
use Rattle.tape.specs.Tape.{Ran, ended, ran}
use Rattle.draws.specs.Draws.{each, run}
use Rattle.draws.proofs.RunLaws.{run_done, bind_ran, bind_ended}
use Rattle.shares.specs.Sharing.{arithmetic, negated}
use Rattle.shares.specs.Refresh.{refresh}
use Rattle.shares.specs.Arrays.{Held}
use Rattle.shares.proofs.ArraysLaws.{held_of, held-set}
use Rattle.shares.proofs.LoopLaws.{Looping, looping_ended, looping_more}
use Rattle.halves.specs.Halving.{parity, join, join_turn, shared_parity}
use Rattle.halves.specs.AtOnce.{signed, joined}

-- ---- a parity as a factor
pub factor_fits : (p : ℕ) {x y z : ℕ} → p < 2 → x < z → y < z → p * y + (1 - p) * x < z
factor_fits zero h l k = omega arith
factor_fits (suc zero) h l k = omega arith
factor_fits (suc (suc p)) h l k = absurd (omega arith)

pub factor_picks : (p x y : ℕ) → p < 2 → p * y + (1 - p) * x ≡ pick (eqb p 1) y x
factor_picks zero x y h = omega arith
factor_picks (suc zero) x y h = omega arith
factor_picks (suc (suc p)) x y h = absurd (omega arith)

-- ---- a parity joins
module _ (M p : ℕ) where
  -- the sign word by word
  pub signed_is : (xs : List ℕ) → along (λ i x. signed M p x) xs ≡ pick (eqb p 1) (negated M xs) xs
  unfolding negated
  signed_is xs = go (eqb p 1)
    where
      go : (b : Bool) → along (λ i x. pick b (neg_mod M x) x) xs ≡ pick b (negated M xs) xs
      go true = refl
      go false = sym (along_is (λ i x. x) xs xs refl (λ j h. refl))

  pub signed_below : {x : ℕ} → 0 < M → x < M → signed M p x < M
  unfolding neg_mod
  signed_below {x} h l = go (eqb p 1)
    where
      go : (b : Bool) → pick b (neg_mod M x) x < M
      go true = (sums M h).sub_below 0 x h l
      go false = l

  pub signed_words : {n : ℕ} {xs : List ℕ} → 0 < M → Words n M xs → Words n M (along (λ i x. signed M p x) xs)
  signed_words h w = words_along _ w (λ i x l k. signed_below h k)

  -- the sign, and p added to the first word
  pub join-signed : (xs : List ℕ) → join M p xs ≡ change (λ a. add_mod M a p) 0 (along (λ i x. signed M p x) xs)
  unfolding join
  join-signed xs = ap (change (λ a. add_mod M a p) 0) (sym (signed_is xs))

  -- and both at once
  pub join_is : (xs : List ℕ) → join M p xs ≡ along (joined M p) xs
  join_is xs = join-signed xs ∙ change_first (λ a. add_mod M a p) (λ i x. signed M p x) xs

  pub joined_below : 2 ≤ M → p < 2 → (i x : ℕ) → x < M → joined M p i x < M
  joined_below two h i x l = go (eqb i 0)
    where
      go : (b : Bool) → pick b (add_mod M (signed M p x) p) (signed M p x) < M
      go true = (sums M (omega arith)).add_below _ p (signed_below (omega arith) l) (omega arith)
      go false = signed_below (omega arith) l

  pub join_words : {n : ℕ} {xs : List ℕ} → 2 ≤ M → p < 2 → Words n M xs → Words n M (join M p xs)
  join_words {xs = xs} two h w = rw (join_is xs) (words_along _ w (λ i x l k. joined_below two h i x k))

-- in a loop over the first n places of an array that began as zs: at turn i those before i are done
pub record Signing (M p n : ℕ) (xs zs : List ℕ) (i : ℕ) (ys : List ℕ) : Type 0 where
  pub most : i ≤ n
  pub so_far : Along 8 (λ j x. joined M p j (get_or xs j 0)) zs i ys

pub signing_start : {M p n : ℕ} {xs zs : List ℕ} → length zs ≡ 8 → Signing M p n xs zs 0 zs
signing_start e = record { most = omega arith; so_far = along-start e }

module _ {M p n : ℕ} {xs zs : List ℕ} {i : ℕ} {ys : List ℕ} (a : Signing M p n xs zs i ys) where
  pub signing_more : i < 8 → (i ≡ n → ⊥) → {v : ℕ} → v ≡ joined M p i (get_or xs i 0) → Signing M p n xs zs (i + 1) (set ys i v)
  signing_more h k e = record { most = omega (arith, a.most, k); so_far = along_more a.so_far h e }

  pub signing_all : n ≤ i → 2 ≤ M → p < 2 → Words 8 M xs → Words 8 M zs → Words 8 M ys × (take n ys ≡ join M p (take n xs))
  signing_all end two h w v = (
    along_below a.so_far v (λ j x l. joined_below M p two h j (get_or xs j 0) (words_at (omega arith) w j)),
    along_is _ (take n xs) (take n ys) (length-take-le n ys (omega (arith, a.so_far.most, a.so_far.kept, a.most)) ∙ sym size) (λ j k. at j (omega (arith, size)))
        ∙ sym (join_is M p (take n xs)),
  )
    where
      size : length (take n xs) ≡ n
      size = length-take-le n xs (omega (arith, a.so_far.most, a.most, w.size))

      at : (j : ℕ) → j < n → get_or (take n ys) j 0 ≡ joined M p j (get_or (take n xs) j 0)
      at j k = get_or-take n ys j 0 k ∙ a.so_far.before j (omega arith) ∙ sym (ap (joined M p j) (get_or-take n xs j 0 k))

-- ---- the loop: what is left to join gives the same as the whole
pub record Joining (size n M : ℕ) (xs tape : List ℕ) (x : Ran (List ℕ)) (i : ℕ) (words : List ℕ) (p : Cursor) : Type 0 where
  pub first : 1 ≤ i
  pub left : Looping (join_turn M (take n xs)) n size n M tape x i words p

pub joining_start : (size n M : ℕ) (xs tape : List ℕ) (p : Cursor) → Held size n M xs →
    Joining size n M xs tape (run (shared_parity M (take n xs)) tape p) 1 (set (replicate size 0) 0 (parity (get_or xs 0 0))) p
unfolding shared_parity
joining_start size n M xs tape p h =
    record {
      first = omega arith;
      left =
          record {
            held = held-set (held_of h (words_same (omega (arith, h.two)))) 0 (omega (arith, h.two));
            same =
                let e : length (take n xs) ≡ n = length-take-le n xs (omega (arith, h.most, h.all.size)) in
                rw (e, get_or-take n xs 0 0 (omega (arith, h.least))) (ap (λ (l : List ℕ). run (each (join_turn M (take n xs)) 1 n l) tape p) (begins size n h.most (omega (arith, h.least))));
          };
    }
  where
    begins : (k m : ℕ) → m ≤ k → 0 < m → take m (set (replicate k 0) 0 (parity (get_or xs 0 0))) ≡ parity (get_or xs 0 0) ∷ replicate (m - 1) 0
    begins k zero l q = absurd (omega arith)
    begins zero (suc m) l q = absurd (omega arith)
    begins (suc k) (suc m) l q = let e : suc m - 1 ≡ m = omega arith in rw e (ap (parity (get_or xs 0 0) ∷◌) (take-replicate m k 0 (omega arith)))

module _ {size n M : ℕ} {xs tape : List ℕ} {x : Ran (List ℕ)} {i : ℕ} {words : List ℕ} {p : Cursor} (a : Joining size n M xs tape x i words p) (h : i < n) where
  -- the tape has ended
  pub joining_ended : run (refresh (arithmetic M) (take n words)) tape p ≡ ended → x ≡ ended
  unfolding join_turn
  joining_ended e = looping_ended a.left h (bind_ended (refresh (arithmetic M) (take n words)) _ tape p e)

  -- the refresh gave fresh words, and the parity of share i joins them
  pub joining_more : (fresh : List ℕ) {others : List ℕ} {c : Cursor} → run (refresh (arithmetic M) (take n words)) tape p ≡ ran (take n fresh) c →
      Words size M others × (take n others ≡ join M (parity (get_or xs i 0)) (take n fresh)) → Joining size n M xs tape x (i + 1) others c
  unfolding join_turn
  joining_more fresh {others} {c} e (w, f) =
      record {
        first = omega arith;
        left =
            looping_more a.left h
            (bind_ran (refresh (arithmetic M) (take n words)) _ tape p (take n fresh) c e ∙ run_done _ tape c
            ∙ ap (λ (l : List ℕ). ran l c) (ap (λ (y : ℕ). join M (parity y) (take n fresh)) (get_or-take n xs i 0 h)
            ∙ sym f))
            w;
      }
