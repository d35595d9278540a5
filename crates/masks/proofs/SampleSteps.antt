-- Laws of the steps of one coefficient: what was drawn and converted, and the pass that takes γ1 − 1 off and closes.
use mathlib.Core.Path.{◌≡◌, sym, ap, ◌∙◌}
use mathlib.Core.List.{List}
use Prim.Native.Nat.{ℕ, ◌-◌, ◌≤◌}
use lib.ListN.{take}
use Rattle.std.specs.Prelude.{Option, Some, None, IfSome, MatchOption}
use native.Mathlib.Omega.{arith}
use Rattle.numbers.specs.Modulo.{q}
use Rattle.params.specs.declared.Params.{Params}
use Rattle.tape.specs.declared.Cursor.{Cursor}
use Rattle.tape.specs.Tape.{Ran, ended, ran}
use Rattle.draws.specs.Draws.{Draws, bind, run}
use Rattle.draws.specs.Plan.{draw_all}
use Rattle.draws.proofs.RunLaws.{bind_assoc, bind_ran, bind_ended}
use Rattle.shares.specs.Sharing.{arithmetic}
use Rattle.shares.specs.Refresh.{refresh}
use Rattle.numbers.specs.Lists.{Words}
use Rattle.shares.specs.declared.Row.{Row}
use Rattle.shares.specs.Arrays.{Held, Gave}
use Rattle.shares.proofs.ArraysLaws.{gave_as}
use Rattle.first.specs.First.{take_from_first}
use Rattle.masks.specs.ToModulus.{to_modulus}
use Rattle.masks.specs.Sampling.{lowered, mask_plan, coefficient}

-- what was drawn and converted may be closed
pub drawn_held : {n : ℕ} {words : List ℕ} → 2 ≤ n → n ≤ 8 → Words 8 q words → Held 8 n q words
drawn_held least most w = record { least = least; most = most; two = omega arith; all = w }

-- if it is given
pub drawn_if_given : {n : ℕ} (s : Option (Row 8)) (x : Ran (List ℕ)) → 2 ≤ n → n ≤ 8 → Gave n q s x → IfSome s (λ row. Held 8 n q row.words)
drawn_if_given (Some row) x least most g = drawn_held least most g.1
drawn_if_given None x least most g = tt

-- with γ1 − 1 taken off and closed, that is the coefficient
module _ (p : Params) (n : ℕ) (tape : List ℕ) (c : Cursor) where
  coefficient_is : run (coefficient p n) tape c ≡ run (bind (bind (draw_all (mask_plan p n)) (to_modulus q p.mu)) (λ ys. refresh (arithmetic q) (lowered p.gamma1 ys))) tape c
  unfolding coefficient
  coefficient_is = ap (λ (d : Draws (List ℕ)). run d tape c) (sym (bind_assoc (draw_all (mask_plan p n)) (to_modulus q p.mu) _))

  pub coefficient_ended : run (bind (draw_all (mask_plan p n)) (to_modulus q p.mu)) tape c ≡ ended → run (coefficient p n) tape c ≡ ended
  coefficient_ended e = coefficient_is ∙ bind_ended _ _ tape c e

  pub coefficient_ran : {ys : List ℕ} {d : Cursor} → run (bind (draw_all (mask_plan p n)) (to_modulus q p.mu)) tape c ≡ ran ys d →
      run (refresh (arithmetic q) (take_from_first (arithmetic q) (p.gamma1 - 1) ys)) tape d ≡ run (coefficient p n) tape c
  unfolding lowered
  coefficient_ran e = sym (coefficient_is ∙ bind_ran _ _ tape c _ _ e)

  -- so of what the steps gave, the tape ended or not
  pub closed : (s r : Option (Row 8)) → Gave n q s (run (bind (draw_all (mask_plan p n)) (to_modulus q p.mu)) tape c) →
      MatchOption s (r ≡ None) (λ row. Gave n q r (run (refresh (arithmetic q) (take_from_first (arithmetic q) (p.gamma1 - 1) (take n row.words))) tape row.cursor)) → Gave n q r (run (coefficient p n) tape c)
  closed (Some row) r g h = gave_as n q r h (coefficient_ran g.0)
  closed None r g h = rw h (coefficient_ended g)
