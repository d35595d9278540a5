-- What a sampled polynomial of masks is, in shares (document 01, "Sampling").
use Rattle.std.specs.Prelude.{◌≡◌, List, ℕ, suc, ◌*◌, ◌<◌, take, drop}
use Rattle.numbers.specs.Modulo.{q}
use Rattle.numbers.specs.Lists.{Words}
use Rattle.params.specs.declared.Params.{Params}
use Rattle.tape.specs.declared.Cursor.{Cursor}
use Rattle.tape.specs.Tape.{start}
use Rattle.masks.specs.Mask.{Mask}

-- 256 coefficients, each at its place c·n, each from its own part of the tape: where one ends, the next begins
pub record Masks (p : Params) (n : ℕ) (tape : List ℕ) (to : Cursor) (out : List ℕ) : Type 0 where
  pub words : Words (256 * n) q out
  pub places : ℕ → Cursor
  pub begins : places 0 ≡ start
  pub ends : places 256 ≡ to
  pub coefficients : (c : ℕ) → c < 256 → Mask p n tape (places c) (places (suc c)) (take n (drop (c * n) out))
