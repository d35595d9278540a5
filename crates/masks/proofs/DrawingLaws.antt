-- Laws of draws below one modulus that are left to make: what the loop that draws the shares goes by.
use mathlib.Core.Path.{◌≡◌, refl, sym, ap, ◌∙◌}
use mathlib.Core.List.{List, [], ◌∷◌, ◌++◌, append_assoc, append-nil}
use Prim.Native.Nat.{ℕ, suc, ◌+◌, ◌-◌, ◌≤◌, ◌<◌}
use native.Mathlib.Numerals.{add-one}
use native.Mathlib.Omega.{arith}
use lib.ListN.{take, set, replicate}
use lib.Seq.{take-suc-set}
use Rattle.numbers.specs.Lists.{Words}
use Rattle.numbers.proofs.WordsLaws.{words_set, words_same}
use Rattle.tape.specs.declared.Cursor.{Cursor}
use Rattle.tape.specs.Tape.{Ran, ended, ran, draw_at}
use Rattle.draws.specs.Draws.{done, bind, after, next, run}
use Rattle.draws.specs.Plan.{draw_all}
use Rattle.draws.proofs.DrawnLaws.{draw_below}
use Rattle.draws.proofs.RunLaws.{run_bind, run_draw, run_ended}

-- a draw and then others, after those that were made
draw_after : (xs : List ℕ) (r : ℕ) (y : Ran (List ℕ)) → next (next y (λ rs c. ran (r ∷ rs) c)) (λ rs c. ran (xs ++ rs) c) ≡ next y (λ rs c. ran ((xs ++ (r ∷ [])) ++ rs) c)
unfolding next after
draw_after xs r ended = refl
draw_after xs r (ran rs c) = ap (λ (l : List ℕ). ran l c) (sym (append_assoc xs (r ∷ []) rs))

-- the words before i were drawn, of n draws below M that began as x: what is left to draw gives the same as the whole
pub record Drawing (M n : ℕ) (tape : List ℕ) (x : Ran (List ℕ)) (i : ℕ) (words : List ℕ) (p : Cursor) : Type 0 where
  pub most : i ≤ n
  pub fits : n ≤ 8
  pub below : Words 8 M words
  pub same : next (run (draw_all (replicate (n - i) M)) tape p) (λ rs c. ran (take i words ++ rs) c) ≡ x

pub drawing_start : (M n : ℕ) (tape : List ℕ) (p : Cursor) → 0 < M → n ≤ 8 → Drawing M n tape (run (draw_all (replicate n M)) tape p) 0 (replicate 8 0) p
unfolding next after
drawing_start M n tape p pos h = record { most = omega arith; fits = h; below = words_same pos; same = let z : n - 0 ≡ n = omega arith in rw z (go (run (draw_all (replicate n M)) tape p)) }
  where
    go : (x : Ran (List ℕ)) → next x (λ rs c. ran ([] ++ rs) c) ≡ x
    go ended = refl
    go (ran rs c) = refl

module _ {M n : ℕ} {tape : List ℕ} {x : Ran (List ℕ)} {i : ℕ} {words : List ℕ} {p : Cursor} (a : Drawing M n tape x i words p) where
  -- no draw is left
  pub drawing_all : n ≤ i → x ≡ ran (take n words) p
  unfolding draw_all run next after
  drawing_all h =
      let e : n - i ≡ 0 = omega arith in
      let f : n ≡ i = omega (arith, a.most) in
      sym (ap (λ (k : ℕ). ran (take k words) p) f ∙ ap (λ (l : List ℕ). ran l p) (sym (append-nil (take i words))) ∙ (rw e at a.same))

  module _ (h : i < n) where
    -- one draw and then the rest
    one : n - i ≡ suc (n - (i + 1))
    one = omega arith

    pub drawing_ended : ended ≡ draw_at tape p M → x ≡ ended
    unfolding draw_all next after
    drawing_ended e =
        let f = rw one at a.same in
        sym f ∙ ap (λ (y : Ran (List ℕ)). next y (λ rs c. ran (take i words ++ rs) c)) (run_ended M _ tape p (sym e))

    pub drawing_more : {r : ℕ} {c : Cursor} → ran r c ≡ draw_at tape p M → Drawing M n tape x (i + 1) (set words i r) c
    unfolding draw_all run next after
    drawing_more {r} {c} e =
        let f = rw one at a.same in
        let ms : List ℕ = replicate (n - (i + 1)) M in
        let taken : take (i + 1) (set words i r) ≡ take i words ++ (r ∷ []) = rw (add-one i) (take-suc-set words i r (omega (arith, a.below.size, a.fits))) in
        record {
          most = omega arith;
          fits = a.fits;
          below = words_set a.below i (draw_below tape p e);
          same =
              ap (λ (l : List ℕ). next (run (draw_all ms) tape c) (λ rs q. ran (l ++ rs) q)) taken
              ∙ sym (draw_after (take i words) r (run (draw_all ms) tape c))
              ∙ sym (ap (λ (y : Ran (List ℕ)). next y (λ rs q. ran (take i words ++ rs) q)) (run_draw M (λ s. bind (draw_all ms) (λ rs. done (s ∷ rs))) tape p r c (sym e) ∙ run_bind (draw_all ms) (λ rs. done (r ∷ rs)) tape c))
              ∙ f;
        }
