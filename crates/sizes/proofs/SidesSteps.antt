-- Laws of the sides and their product, as the code goes through them: where the tape ends, and what they give.
use mathlib.Core.Path.{◌≡◌, sym, ◌∙◌}
use mathlib.Core.List.{List}
use Prim.Native.Nat.{ℕ, ◌<◌}
use native.Mathlib.Omega.{arith}
use Rattle.numbers.specs.Modulo.{q}
use Rattle.params.specs.declared.Bounds.{Bounds}
use Rattle.params.specs.Laws.{KindLaws}
use Rattle.params.proofs.RoomLaws.{bound_below}
use Rattle.tape.specs.declared.Cursor.{Cursor}
use Rattle.tape.specs.Tape.{ended, ran}
use Rattle.draws.specs.Draws.{bind, run}
use Rattle.draws.proofs.RunLaws.{bind_ran, bind_ended}
use Rattle.shares.specs.Sharing.{arithmetic, negated}
use Rattle.shares.specs.Refresh.{refresh}
use Rattle.shares.specs.Arrays.{Held}
use Rattle.shares.proofs.ArraysLaws.{held_of}
use Rattle.first.specs.First.{take_from_first}
use Rattle.first.proofs.FirstLaws.{taken_words}
use Rattle.sizes.specs.Widening.{wide, widened}
use Rattle.sizes.proofs.WideningSteps.{wide_least}
use Rattle.sizes.specs.Product.{product}
use Rattle.sizes.specs.Sides.{side, sides_product}

-- ---- a side
module _ {bounds : Bounds} (h : KindLaws bounds) where
  pub bound-wide : bounds.a < wide bounds
  bound-wide = omega (arith, bound_below h, wide_least h)

  pub side-held : {n : ℕ} {ws : List ℕ} → Held 8 n (wide bounds) ws → Held 8 n (wide bounds) (take_from_first (widened bounds) bounds.a ws)
  side-held a = held_of a (taken_words (widened bounds) bounds.a (omega (arith, a.two)) bound-wide a.all)

-- ---- both sides and their product
module _ (bounds : Bounds) (ws tape : List ℕ) (p : Cursor) where
  pub left_ended : run (side bounds ws) tape p ≡ ended → run (sides_product bounds ws) tape p ≡ ended
  unfolding sides_product
  left_ended e = bind_ended (side bounds ws) _ tape p e

  module _ (left : List ℕ) {c : Cursor} (l : run (side bounds ws) tape p ≡ ran left c) where
    pub right_ended : run (side bounds (negated (wide bounds) ws)) tape c ≡ ended → run (sides_product bounds ws) tape p ≡ ended
    unfolding sides_product
    right_ended e = bind_ran (side bounds ws) _ tape p left c l ∙ bind_ended (side bounds (negated (wide bounds) ws)) _ tape c e

    module _ (right : List ℕ) {d : Cursor} (r : run (side bounds (negated (wide bounds) ws)) tape c ≡ ran right d) where
      to_refresh : run (sides_product bounds ws) tape p ≡ run (bind (refresh (arithmetic q) left) (λ fresh. product q fresh right)) tape d
      unfolding sides_product
      to_refresh = bind_ran (side bounds ws) _ tape p left c l ∙ bind_ran (side bounds (negated (wide bounds) ws)) _ tape c right d r

      pub fresh_ended : run (refresh (arithmetic q) left) tape d ≡ ended → run (sides_product bounds ws) tape p ≡ ended
      fresh_ended e = to_refresh ∙ bind_ended (refresh (arithmetic q) left) _ tape d e

      pub to_product : (fresh : List ℕ) {e : Cursor} → run (refresh (arithmetic q) left) tape d ≡ ran fresh e → run (product q fresh right) tape e ≡ run (sides_product bounds ws) tape p
      to_product fresh {e} f = sym (to_refresh ∙ bind_ran (refresh (arithmetic q) left) _ tape d fresh e f)
