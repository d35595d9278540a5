-- Laws of the conversion to mod Q, as the code goes through it: where the tape ends, and what it gives.
use mathlib.Core.Path.{◌≡◌, sym, ap, ◌∙◌}
use mathlib.Core.List.{List}
use Prim.Native.Nat.{ℕ, ◌+◌, ◌^◌, ◌≤◌}
use lib.ListN.{length, take}
use lib.Seq.{length-take-le}
use Rattle.numbers.specs.Bits.{alpha}
use Rattle.tape.specs.declared.Cursor.{Cursor}
use Rattle.tape.specs.Tape.{ended, ran}
use Rattle.draws.specs.Draws.{Draws, done, bind, run}
use Rattle.draws.proofs.RunLaws.{run_done, bind_ran, bind_ended, part_ran, part_ended}
use Rattle.rules.specs.ToArithmetic.{to_arithmetic}
use Rattle.halves.specs.Carries.{carries, without}
use Rattle.masks.specs.ToModulus.{to_modulus}

-- what follows the conversion mod 2^(μ + α), and the shift
unfoldable taken_off : (Q μ α : ℕ) → List ℕ → List ℕ → Draws (List ℕ)
taken_off Q μ α ys es = done (without Q (2 ^ (μ + α)) es ys)

unfoldable after_convert : (Q μ α : ℕ) → List ℕ → Draws (List ℕ)
after_convert Q μ α ys = bind (carries Q α 1 (2 ^ μ) ys) (taken_off Q μ α ys)

whole_is : {n α : ℕ} (Q μ : ℕ) (ws : List ℕ) → n ≤ length ws → α ≡ alpha n → to_modulus Q μ (take n ws) ≡ bind (to_arithmetic (μ + α) (take n ws)) (after_convert Q μ α)
unfolding to_modulus after_convert taken_off
whole_is {n} {α} Q μ ws most is = let same : alpha (length (take n ws)) ≡ α = ap alpha (length-take-le n ws most) ∙ sym is in rw same

module _ {n α : ℕ} (Q μ : ℕ) (ws tape : List ℕ) (p : Cursor) (most : n ≤ length ws) (is : α ≡ alpha n) where
  pub convert_ended : run (to_arithmetic (μ + α) (take n ws)) tape p ≡ ended → run (to_modulus Q μ (take n ws)) tape p ≡ ended
  convert_ended = part_ended _ _ tape p (whole_is Q μ ws most is)

  module _ {ys : List ℕ} {c : Cursor} (e : run (to_arithmetic (μ + α) (take n ws)) tape p ≡ ran ys c) where
    converted : run (to_modulus Q μ (take n ws)) tape p ≡ run (after_convert Q μ α ys) tape c
    converted = part_ran _ _ tape p (whole_is Q μ ws most is) e

    pub carries_ended : run (carries Q α 1 (2 ^ μ) ys) tape c ≡ ended → run (to_modulus Q μ (take n ws)) tape p ≡ ended
    unfolding after_convert
    carries_ended f = converted ∙ bind_ended (carries Q α 1 (2 ^ μ) ys) (taken_off Q μ α ys) tape c f

    pub switched : {es rs : List ℕ} {d : Cursor} → run (carries Q α 1 (2 ^ μ) ys) tape c ≡ ran es d → rs ≡ without Q (2 ^ (μ + α)) es ys →
        run (to_modulus Q μ (take n ws)) tape p ≡ ran rs d
    unfolding after_convert taken_off
    switched {es} {rs} {d} f g =
        sym (ap (λ xs. ran xs d) g
        ∙ sym (converted ∙ bind_ran (carries Q α 1 (2 ^ μ) ys) (taken_off Q μ α ys) tape c es d f ∙ run_done (without Q (2 ^ (μ + α)) es ys) tape d))
