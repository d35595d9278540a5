-- Laws of the halving of two shares: its one draw, and what it gives.
use mathlib.Core.Path.{◌≡◌, refl, sym, ap, ◌∙◌}
use mathlib.Core.List.{List, [], ◌∷◌}
use Prim.Native.Nat.{ℕ, ◌*◌, ◌/◌, ◌<◌}
use native.Mathlib.Omega.{arith}
use lib.ListN.{replicate}
use Rattle.numbers.specs.Modulo.{add_mod, sub_mod}
use Rattle.numbers.specs.Lists.{Words, along, change, over}
use Rattle.numbers.proofs.WordsLaws.{words_cons, words_same}
use Rattle.words.proofs.WordLaws.{sub_low}
use Rattle.tape.specs.declared.Cursor.{Cursor}
use Rattle.tape.specs.Tape.{ended, ran, draw_at}
use Rattle.draws.specs.Draws.{after, next, run, bind, turns, each}
use Rattle.shares.specs.Sharing.{move}
use Rattle.shares.specs.Refresh.{turn, refresh}
use Rattle.halves.specs.Halving.{parity, join, join_turn, shared_parity, less, move_parity, evened, halves, halving}
use Rattle.halves.specs.AtOnce.{joined}
use Rattle.halves.proofs.ParityLaws.{join_is}

-- A joined by the parity of the second share, and subtracted
join_two : (M p a b : ℕ) → join M p (a ∷ b ∷ []) ≡ joined M p 0 a ∷ joined M p 1 b ∷ []
unfolding along
join_two M p a b = join_is M p (a ∷ b ∷ [])

less_two : (M a b x y : ℕ) → less M (a ∷ b ∷ []) (x ∷ y ∷ []) ≡ sub_mod M x a ∷ sub_mod M y b ∷ []
unfolding less along
less_two M a b x y = refl

-- the parity of the first moves into the second, and both are halved
halves_two : (M d e : ℕ) → d < M → halves (evened M (d ∷ e ∷ [])) ≡ d / 2 ∷ add_mod M e (parity d) / 2 ∷ []
unfolding halves evened over move_parity move change along
halves_two M d e l = ap (λ (x : ℕ). x / 2 ∷ add_mod M e (parity d) / 2 ∷ []) (sym (sub_low {m = M} {a = d} {b = parity d} l (omega arith) (omega arith))) ∙ ap (λ (x : ℕ). x ∷ add_mod M e (parity d) / 2 ∷ []) (omega arith)

-- all steps after the draw
two_shares : (M p x y α β : ℕ) {a b u v w : ℕ} → a ≡ joined M p 0 α → b ≡ joined M p 1 β → u ≡ sub_mod M x a → v ≡ sub_mod M y b → u < M → w ≡ add_mod M v (parity u) →
    halves (evened M (less M (join M p (α ∷ β ∷ [])) (x ∷ y ∷ []))) ≡ u / 2 ∷ w / 2 ∷ []
two_shares M p x y α β {a} {b} {u} {v} {w} ea eb eu ev l ew =
    rw (join_two M p α β, ← ea, ← eb, less_two M a b x y, ← eu, ← ev, halves_two M u v l, ← ew)

module _ (m x y : ℕ) (tape : List ℕ) (p : Cursor) where
  two_run : run (halving m (x ∷ y ∷ [])) tape p ≡ next (draw_at tape p (2 * m)) (λ r c.
      ran (halves (evened (2 * m) (less (2 * m) (join (2 * m) (parity y) (add_mod (2 * m) (parity x) r ∷ sub_mod (2 * m) 0 r ∷ [])) (x ∷ y ∷ [])))) c)
  unfolding halving shared_parity join_turn refresh turn each turns bind run move change
  two_run = refl

  -- the tape has ended
  pub two_ended : ended ≡ draw_at tape p (2 * m) → run (halving m (x ∷ y ∷ [])) tape p ≡ ended
  unfolding next after
  two_ended e = two_run ∙ rw (sym e)

  -- it suffices
  pub two_gave : {r : ℕ} {c : Cursor} → ran r c ≡ draw_at tape p (2 * m) → {α β a b u v : ℕ} → α ≡ add_mod (2 * m) (parity x) r → β ≡ sub_mod (2 * m) 0 r →
      a ≡ joined (2 * m) (parity y) 0 α → b ≡ joined (2 * m) (parity y) 1 β → u ≡ sub_mod (2 * m) x a → v ≡ sub_mod (2 * m) y b →
      u < 2 * m → {w : ℕ} → w ≡ add_mod (2 * m) v (parity u) → w < 2 * m → (run (halving m (x ∷ y ∷ [])) tape p ≡ ran (u / 2 ∷ w / 2 ∷ []) c) × Words 8 m (u / 2 ∷ w / 2 ∷ replicate 6 0)
  unfolding next after
  two_gave {r} {c} e eα eβ ea eb eu ev l ew k = (
    two_run ∙ rw (sym e, ← eα, ← eβ) (ap (λ (xs : List ℕ). ran xs c) (two_shares (2 * m) (parity y) x y _ _ ea eb eu ev l ew)),
    words_cons (omega arith) (words_cons (omega arith) (words_same (omega arith))),
  )
