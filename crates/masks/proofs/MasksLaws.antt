-- What a run of the steps of a polynomial leaves is a mask for each of its coefficients, at its place, from its own part of the tape.
use mathlib.Core.Path.{◌≡◌, refl, sym, subst, subst₂, ◌∙◌}
use mathlib.Core.List.{List, ◌++◌}
use Prim.Native.Nat.{ℕ, zero, suc, ◌+◌, ◌*◌, ◌≤◌, ◌<◌}
use native.Mathlib.Nat.{suc-mul, zero-add}
use native.Mathlib.Omega.{arith}
use lib.ListN.{length, take, drop}
use lib.Seq.{length-take-le, take_all}
use Rattle.numbers.specs.Modulo.{q}
use Rattle.numbers.specs.Bits.{alpha}
use Rattle.numbers.specs.Lists.{Words}
use Rattle.numbers.proofs.WordsLaws.{words_none, words_append}
use Rattle.params.specs.declared.Params.{Params}
use Rattle.params.specs.Laws.{Laws}
use Rattle.tape.specs.declared.Cursor.{Cursor}
use Rattle.tape.specs.Tape.{ran, start}
use Rattle.draws.specs.Draws.{done, turns, each, run}
use Rattle.draws.proofs.RunLaws.{bind_parts}
use Rattle.masks.specs.Sampling.{coefficient}
use Rattle.masks.specs.Polynomial.{filled, row, polynomial}
use Rattle.masks.specs.Mask.{Mask}
use Rattle.masks.specs.Masks.{Masks}
use Rattle.masks.proofs.RowLaws.{row_within, filled-length, filled_upto, front_of, part_of}
use Rattle.masks.proofs.MaskLaws.{coefficient_masks}

module _ {p : Params} (l : Laws p) (n : ℕ) (least : 0 < n) (room : p.mu + alpha n ≤ 32) (tape : List ℕ) where
  -- after k rows from row c on, from one place up to another: the rows before c are as they were, and each row since is a mask
  record Rows (c k : ℕ) (out after : List ℕ) (from to : Cursor) : Type 0 where
    size : length after ≡ length out
    before : take (c * n) after ≡ take (c * n) out
    words : Words (c * n) q (take (c * n) out) → Words ((c + k) * n) q (take ((c + k) * n) after)
    places : ℕ → Cursor
    begins : places 0 ≡ from
    ends : places k ≡ to
    masks : (j : ℕ) → j < k → Mask p n tape (places j) (places (suc j)) (take n (drop ((c + j) * n) after))

  -- a place, and then others
  abbrev ahead : Cursor → (ℕ → Cursor) → ℕ → Cursor
  ahead s f zero = s
  ahead s f (suc j) = f j

  -- one row and then the others
  one_more_row : (c k : ℕ) (out ys : List ℕ) {after : List ℕ} {from mid to : Cursor} → (c + suc k) * n ≤ length out → Mask p n tape from mid ys →
      Rows (suc c) k (filled (c * n) ys out) after mid to → Rows c (suc k) out after from to
  one_more_row c k out ys {after} {from} {mid} {to} fit m r =
      let a : ℕ = c * n in
      let size : length ys ≡ n = m.words.size in
      let within : a + n ≤ length out = omega (arith, row_within c (c + suc k) n (omega arith)) in
      let begins : take (a + n) (filled a ys out) ≡ take a out ++ ys = subst (λ (j : ℕ). take (a + j) (filled a ys out) ≡ take a out ++ ys) size (filled_upto a ys out (omega arith)) in
      let kept : take (a + n) after ≡ take (a + n) (filled a ys out) = subst (λ (j : ℕ). take j after ≡ take j (filled a ys out)) (suc-mul c n) r.before in
      let front : length (take a out) ≡ a = length-take-le a out (omega arith) in
      let same : suc c + k ≡ c + suc k = omega arith in
      record {
        size = r.size ∙ filled-length a ys out (omega arith);
        before = front_of a n after (take a out) ys (kept ∙ begins) front;
        words = λ w.
            subst (λ (j : ℕ). Words (j * n) q (take (j * n) after)) same
            (r.words (subst (λ (j : ℕ). Words j q (take j (filled a ys out))) (sym (suc-mul c n)) (subst (Words (a + n) q) (sym begins) (words_append (take a out) w m.words))));
        places = ahead from r.places;
        begins = refl;
        ends = r.ends;
        masks = λ j h. masks j h (part_of a n after (take a out) ys (kept ∙ begins) front size);
      }
    where
      masks : (j : ℕ) → j < suc k → take n (drop (c * n) after) ≡ ys → Mask p n tape (ahead from r.places j) (r.places j) (take n (drop ((c + j) * n) after))
      masks zero h e =
          let z : c + 0 ≡ c = omega arith in
          rw z (subst₂ (λ (s : Cursor) (zs : List ℕ). Mask p n tape from s zs) (sym r.begins) (sym e) m)
      masks (suc j) h e = let z : suc c + j ≡ c + suc j = omega arith in subst (λ (i : ℕ). Mask p n tape (r.places j) (r.places (suc j)) (take n (drop (i * n) after))) z (r.masks j (omega arith))

  rows : (c k : ℕ) (out : List ℕ) {after : List ℕ} {from to : Cursor} → (c + k) * n ≤ length out → run (turns (row p n) c k out) tape from ≡ ran after to → Rows c k out after from to
  unfolding turns run row
  rows c zero out {after} {from} {to} fit e =
      let f : out ≡ after = cc in
      let g : from ≡ to = cc in
      subst₂ (λ (o : List ℕ) (s : Cursor). Rows c 0 out o from s) f g
      (record { size = refl; before = refl; words = λ w. let z : c + 0 ≡ c = omega arith in rw z w; places = λ j. from; begins = refl; ends = refl; masks = λ j h. absurd (omega arith) })
  rows c (suc k) out {after} {from} {to} fit e =
      let (one, s, x, y) = bind_parts (row p n c out) (λ o. turns (row p n) (suc c) k o) tape from e in
      let (ys, t, z, v) = bind_parts (coefficient p n) (λ zs. done (filled (c * n) zs out)) tape from x in
      let m = coefficient_masks l n least room tape z in
      let f : one ≡ filled (c * n) ys out = cc in
      let g : s ≡ t = cc in
      let size : length (filled (c * n) ys out) ≡ length out = filled-length (c * n) ys out (omega (arith, m.words.size, row_within c (c + suc k) n (omega arith))) in
      one_more_row c k out ys fit m
      (rows (suc c) k (filled (c * n) ys out) (omega arith) (subst₂ (λ (o : List ℕ) (u : Cursor). run (turns (row p n) (suc c) k o) tape u ≡ ran after to) f g y))

  pub polynomial_masks : (out : List ℕ) {after : List ℕ} {to : Cursor} → length out ≡ 256 * n → run (polynomial p n out) tape start ≡ ran after to → Masks p n tape to after
  unfolding polynomial each
  polynomial_masks out {after} e f =
      let r = rows 0 256 out (omega arith) f in
      let none : 0 * n ≡ 0 = omega arith in
      let w : Words (256 * n) q (take (256 * n) after) = r.words (rw none words_none) in
      record {
        words = subst (Words (256 * n) q) (take_all (256 * n) after (omega (arith, r.size))) w;
        places = r.places;
        begins = r.begins;
        ends = r.ends;
        coefficients = λ c h. subst (λ (i : ℕ). Mask p n tape (r.places c) (r.places (suc c)) (take n (drop (i * n) after))) (zero-add c) (r.masks c h);
      }
