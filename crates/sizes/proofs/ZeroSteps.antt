-- Laws of the zero test, as the code goes through it: where the tape ends, and what it gives.
use mathlib.Core.Path.{◌≡◌, refl, sym, ap, ◌∙◌}
use mathlib.Core.List.{List}
use Prim.Native.Nat.{ℕ, ◌+◌, ◌-◌, ◌*◌, ◌<◌}
use native.Mathlib.Nat.{mod-lt}
use native.Mathlib.Omega.{arith}
use lib.ListN.{take}
use lib.Seq.{length-take-le}
use Rattle.numbers.specs.Modulo.{q}
use Rattle.numbers.specs.Lists.{Words}
use Rattle.numbers.proofs.AlongLaws.{take-along, words_along}
use Rattle.tape.specs.declared.Cursor.{Cursor}
use Rattle.tape.specs.Tape.{Ran, ended, ran, draw_at}
use Rattle.draws.specs.Draws.{each, run}
use Rattle.draws.proofs.DrawnLaws.{draw_below}
use Rattle.draws.proofs.RunLaws.{run_draw, run_ended}
use Rattle.shares.specs.Sharing.{arithmetic}
use Rattle.shares.specs.Refresh.{refresh}
use Rattle.shares.specs.Arrays.{Held}
use Rattle.shares.proofs.ArraysLaws.{held_of}
use Rattle.shares.proofs.LoopLaws.{Looping, looping_ended, looping_more}
use Rattle.sizes.specs.ZeroTest.{scaled, scale_turn, zero_test}

module _ (M c : ℕ) where
  pub scaled-take : (n : ℕ) (xs : List ℕ) → take n (scaled M c xs) ≡ scaled M c (take n xs)
  unfolding scaled
  scaled-take n xs = take-along _ _ n xs (λ i x h. refl)

  pub scaled_words : {n : ℕ} {xs : List ℕ} → 0 < M → Words n M xs → Words n M (scaled M c xs)
  unfolding scaled
  scaled_words some w = words_along _ w (λ i x h l. mod-lt (x * c) some)

pub zero_start : {M n : ℕ} {words : List ℕ} (tape : List ℕ) (p : Cursor) → Held 8 n M words → Looping (scale_turn M) n 8 n M tape (run (zero_test M (take n words)) tape p) 0 words p
unfolding zero_test
zero_start {M} {n} {words} tape p a =
    record {
      held = a;
      same = ap (λ (m : ℕ). run (each (scale_turn M) 0 m (take n words)) tape p) (sym (length-take-le n words (omega (arith, a.most, a.all.size))));
    }

-- a turn: the draw, and then the refresh of the scaled words
module _ {n : ℕ} {tape : List ℕ} {x : Ran (List ℕ)} {i : ℕ} {words : List ℕ} {p : Cursor} (a : Looping (scale_turn q) n 8 n q tape x i words p) (h : i < n)
  where
    pub zero_ended : ended ≡ draw_at tape p (q - 1) → x ≡ ended
    unfolding scale_turn
    zero_ended e = looping_ended a h (run_ended (q - 1) _ tape p (sym e))

    module _ {r : ℕ} {c : Cursor} (e : ran r c ≡ draw_at tape p (q - 1)) where
      pub scalar_below : r < q - 1
      scalar_below = draw_below tape p e

      module _ {others : List ℕ} (f : others ≡ scaled q (r + 1) words) where
        pub zero_held : Held 8 n q others
        zero_held = held_of a.held (rw f (scaled_words q (r + 1) (omega arith) a.held.all))

        to_fresh : run (scale_turn q i (take n words)) tape p ≡ run (refresh (arithmetic q) (take n others)) tape c
        unfolding scale_turn
        to_fresh =
            run_draw (q - 1) _ tape p r c (sym e)
            ∙ ap (λ xs. run (refresh (arithmetic q) xs) tape c) (sym (ap (take n) f ∙ scaled-take q (r + 1) n words))

        pub zero_stopped : run (refresh (arithmetic q) (take n others)) tape c ≡ ended → x ≡ ended
        zero_stopped s = looping_ended a h (to_fresh ∙ s)

        pub zero_more : {fresh : List ℕ} {t : Cursor} → run (refresh (arithmetic q) (take n others)) tape c ≡ ran (take n fresh) t → Words 8 q fresh →
            Looping (scale_turn q) n 8 n q tape x (i + 1) fresh t
        zero_more s w = looping_more a h (to_fresh ∙ s) w
