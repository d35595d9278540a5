-- What a sampled mask is, in shares: one coefficient (document 01, "Sampling").
use Rattle.std.specs.Prelude.{◌≡◌, List, ℕ, ◌+◌, ◌-◌, length, pos, neg_ℤ, ◌-ℤ◌, ◌≤ℤ◌}
use Rattle.numbers.specs.Modulo.{q}
use Rattle.numbers.specs.Lists.{Words, xor_all}
use Rattle.numbers.specs.Centred.{centred}
use Rattle.params.specs.declared.Params.{Params}
use Rattle.tape.specs.declared.Cursor.{Cursor}
use Rattle.tape.specs.Tape.{ran}
use Rattle.draws.specs.Draws.{run}
use Rattle.draws.specs.Plan.{draw_all, skipped}
use Rattle.draws.specs.Anew.{Same}
use Rattle.shares.specs.Sharing.{arithmetic, value}
use Rattle.masks.specs.Sampling.{mask_plan, coefficient, coefficient_plan}

-- the n shares ys of one coefficient, from the words of the tape between two places
pub record Mask (p : Params) (n : ℕ) (tape : List ℕ) (from to : Cursor) (ys : List ℕ) : Type 0 where
  pub steps : run (coefficient p n) tape from ≡ ran ys to
  pub words : Words n q ys
  -- these words are its draws and the words that they skip, and it depends on no other: a tape that has them there gives the same
  pub used : to.at ≡ from.at + length (coefficient_plan p n) + skipped (coefficient_plan p n) tape from
  pub read : (other : List ℕ) → Same tape other from.at to.at → run (coefficient p n) other from ≡ ran ys to
  -- the words that are drawn first
  pub drawn : List ℕ
  pub place : Cursor
  pub first : run (draw_all (mask_plan p n)) tape from ≡ ran drawn place
  -- the value is their exclusive or, less γ1 − 1
  pub recombined : centred q (value (arithmetic q) ys) ≡ pos (xor_all drawn) -ℤ pos (p.gamma1 - 1)
  -- and lies in −γ1+1 .. γ1
  pub least : neg_ℤ (pos (p.gamma1 - 1)) ≤ℤ centred q (value (arithmetic q) ys)
  pub most : centred q (value (arithmetic q) ys) ≤ℤ pos p.gamma1
