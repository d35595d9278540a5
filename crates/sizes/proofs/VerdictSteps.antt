-- Laws of the verdict, as the code goes through it: where the tape ends, and what it gives.
use mathlib.Core.Path.{◌≡◌, sym, ◌∙◌}
use mathlib.Core.List.{List}
use Prim.Native.Nat.{ℕ}
use Rattle.numbers.specs.Modulo.{q}
use Rattle.params.specs.declared.Bounds.{Bounds}
use Rattle.tape.specs.declared.Cursor.{Cursor}
use Rattle.tape.specs.Tape.{ended, ran}
use Rattle.draws.specs.Draws.{run}
use Rattle.draws.proofs.RunLaws.{bind_ran, bind_ended}
use Rattle.sizes.specs.Widening.{widen}
use Rattle.sizes.specs.ZeroTest.{zero_test}
use Rattle.sizes.specs.Sides.{sides_product}
use Rattle.sizes.specs.Verdict.{tested}

module _ (bounds : Bounds) (xs tape : List ℕ) (p : Cursor) where
  pub widen_stops : run (widen bounds xs) tape p ≡ ended → run (tested bounds xs) tape p ≡ ended
  unfolding tested
  widen_stops e = bind_ended (widen bounds xs) _ tape p e

  module _ (ws : List ℕ) {c : Cursor} (w : run (widen bounds xs) tape p ≡ ran ws c) where
    pub sides_stop : run (sides_product bounds ws) tape c ≡ ended → run (tested bounds xs) tape p ≡ ended
    unfolding tested
    sides_stop e = bind_ran (widen bounds xs) _ tape p ws c w ∙ bind_ended (sides_product bounds ws) (zero_test q) tape c e

    pub to_zero_test : (ps : List ℕ) {d : Cursor} → run (sides_product bounds ws) tape c ≡ ran ps d → run (zero_test q ps) tape d ≡ run (tested bounds xs) tape p
    unfolding tested
    to_zero_test ps {d} e = sym (bind_ran (widen bounds xs) _ tape p ws c w ∙ bind_ran (sides_product bounds ws) (zero_test q) tape c ps d e)
