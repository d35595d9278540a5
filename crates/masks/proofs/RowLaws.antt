-- Laws of the rows of a polynomial: what the loop over its coefficients goes by.
use mathlib.Core.Path.{◌≡◌, refl, sym, ap, ap₂, subst, ◌∙◌}
use mathlib.Core.List.{List, ◌++◌, append_assoc}
use Prim.Native.Nat.{ℕ, ◌+◌, ◌-◌, ◌*◌, ◌≤◌, ◌<◌}
use native.Mathlib.Nat.{suc-mul, mul-le-mul_right}
use native.Mathlib.Omega.{arith}
use lib.ListN.{length, take, drop, length-append, length-drop, take-append-drop}
use lib.Seq.{length-take-le, take-take, take_at, drop_at}
use borrow.Rule.Slice.PartMut.{Post-is, mid_len}
use Rattle.params.specs.declared.Params.{Params}
use Rattle.tape.specs.declared.Cursor.{Cursor}
use Rattle.tape.specs.Tape.{Ran, ended, ran, start}
use Rattle.draws.specs.Draws.{each, run}
use Rattle.draws.proofs.RunLaws.{bind_ran, bind_ended, run_done, each_done, each_more, each_ended}
use Rattle.masks.specs.Sampling.{coefficient}
use Rattle.masks.specs.Polynomial.{filled, row, polynomial}

-- row c of so many rows of n words lies within them
pub row_within : (c rows n : ℕ) → c < rows → c * n + n ≤ rows * n
row_within c rows n h = subst (λ (k : ℕ). k ≤ rows * n) (suc-mul c n) (mul-le-mul_right n h)

-- words that fill as many others leave the length as it was
pub filled-length : (place : ℕ) (ys out : List ℕ) → place + length ys ≤ length out → length (filled place ys out) ≡ length out
unfolding filled
filled-length place ys out h =
    length-append (take place out) (ys ++ drop (place + length ys) out)
    ∙ ap₂ ◌+◌ (length-take-le place out (omega arith)) (length-append ys (drop (place + length ys) out) ∙ ap (length ys +◌) (length-drop (place + length ys) out))
    ∙ omega arith

-- and stand after those before them
pub filled_upto : (place : ℕ) (ys out : List ℕ) → place ≤ length out → take (place + length ys) (filled place ys out) ≡ take place out ++ ys
unfolding filled
filled_upto place ys out h =
    ap (take (place + length ys)) (sym (append_assoc (take place out) ys (drop (place + length ys) out)))
    ∙ take_at (take place out ++ ys) (drop (place + length ys) out) (place + length ys) (length-append (take place out) ys ∙ ap (◌+ length ys) (length-take-le place out h))

-- what a list has before a place, and the n words from there on, of a list that begins so
module _ (a n : ℕ) (xs ps ys : List ℕ) (begins : take (a + n) xs ≡ ps ++ ys) (before : length ps ≡ a) where
  pub front_of : take a xs ≡ ps
  front_of = sym (take-take a (a + n) xs (omega arith)) ∙ ap (take a) begins ∙ take_at ps ys a before

  pub part_of : length ys ≡ n → take n (drop a xs) ≡ ys
  part_of e =
      ap (λ (l : List ℕ). take n (drop a l)) (sym (take-append-drop (a + n) xs) ∙ ap (◌++ drop (a + n) xs) begins ∙ append_assoc ps ys (drop (a + n) xs))
      ∙ ap (take n) (drop_at ps (ys ++ drop (a + n) xs) a before) ∙ take_at ys (drop (a + n) xs) n e

-- n words are lent
pub lent_length : (place n : ℕ) (out : List ℕ) → place + n ≤ length out → length (take (place + n - place) (drop place out)) ≡ n
lent_length place n out h = mid_len place (place + n) out h ∙ omega arith

-- put back, they are the words that fill
pub filled_back : (place n : ℕ) (ys out : List ℕ) → length ys ≡ n → take place out ++ (ys ++ drop (place + n - place) (drop place out)) ≡ filled place ys out
unfolding filled
filled_back place n ys out e =
    ap (λ (l : List ℕ). take place out ++ (ys ++ l)) (Post-is place (place + n) out (omega arith) ∙ ap (λ (k : ℕ). drop (place + k) out) (sym e))

-- the coefficients before c stand in their rows, of a polynomial that began as x: what is left to do gives the same as the whole
pub record Filling (p : Params) (n : ℕ) (tape : List ℕ) (x : Ran (List ℕ)) (c : ℕ) (out : List ℕ) (cursor : Cursor) : Type 0 where
  pub size : length out ≡ 256 * n
  pub same : run (each (row p n) c 256 out) tape cursor ≡ x

pub filling_start : (p : Params) (n : ℕ) (tape out : List ℕ) → length out ≡ 256 * n → Filling p n tape (run (polynomial p n out) tape start) 0 out start
unfolding polynomial
filling_start p n tape out e = record { size = e; same = refl }

module _ {p : Params} {n : ℕ} {tape : List ℕ} {x : Ran (List ℕ)} {c : ℕ} {out : List ℕ} {cursor : Cursor} (a : Filling p n tape x c out cursor) where
  pub filling_all : 256 ≤ c → x ≡ ran out cursor
  filling_all h = sym a.same ∙ each_done (row p n) c 256 out tape cursor h

  module _ (h : c < 256) where
    -- the row is lent
    pub filling_within : c * n + n ≤ length out
    filling_within = omega (arith, row_within c 256 n h, a.size)

    pub filling_ended : run (coefficient p n) tape cursor ≡ ended → x ≡ ended
    unfolding row
    filling_ended e = sym a.same ∙ each_ended (row p n) c 256 out tape cursor h (bind_ended (coefficient p n) _ tape cursor e)

    -- and comes back
    pub filling_more : {ys : List ℕ} {next : Cursor} →
        run (coefficient p n) tape cursor ≡ ran ys next →
        length ys ≡ n →
        Filling p n tape x (c + 1) (take (c * n) out ++ (ys ++ drop (c * n + n - c * n) (drop (c * n) out))) next
    unfolding row
    filling_more {ys} {next} found l =
        let back = filled_back (c * n) n ys out l in
        record {
          size = ap length back ∙ filled-length (c * n) ys out (omega (arith, filling_within)) ∙ a.size;
          same =
              ap (λ (o : List ℕ). run (each (row p n) (c + 1) 256 o) tape next) back
              ∙ sym (each_more (row p n) c 256 out tape cursor h (filled (c * n) ys out) next (bind_ran (coefficient p n) _ tape cursor ys next found ∙ run_done _ tape next))
              ∙ a.same;
        }
