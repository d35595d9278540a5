-- Plans: the moduli that a program draws below, in turn. Which words reading a plan takes and skips (document 01, "The tape").
use Rattle.std.specs.Prelude.{List, [], ◌∷◌, ◌++◌, ℕ, zero, suc, ◌+◌, ◌-◌, drop, ltb}
use Rattle.numbers.specs.Tests.{pick}
use Rattle.tape.specs.declared.Cursor.{Cursor}
use Rattle.tape.specs.Tape.{low_bits, draw_at}
use Rattle.draws.specs.Draws.{Draws, done, draw, after, bind}

-- a plan k times over
unfoldable pub repeated : ℕ → List ℕ → List ℕ
repeated zero ms = []
repeated (suc k) ms = ms ++ repeated k ms

-- the program that reads a plan: it draws below each of ms and answers the list of the draws
unfoldable pub draw_all : List ℕ → Draws (List ℕ)
draw_all [] = done []
draw_all (M ∷ ms) = draw M (λ r. bind (draw_all ms) (λ rs. done (r ∷ rs)))

-- how many words a draw below M skips
unfoldable pub skip_from : ℕ → List ℕ → ℕ
skip_from M [] = 0
skip_from M (w ∷ ws) = pick (ltb (low_bits M w) M) 0 (1 + skip_from M ws)

-- how many words the draws of a plan skip
unfoldable pub skipped : List ℕ → List ℕ → Cursor → ℕ
skipped [] tape c = 0
skipped (M ∷ ms) tape c = skip_from M (drop c.at tape) + after (draw_at tape c M) 0 (λ r p. skipped ms tape p)

-- the places of the words that gave the draws of a plan: each is the last word that its draw read
unfoldable pub places : List ℕ → List ℕ → Cursor → List ℕ
places [] tape c = []
places (M ∷ ms) tape c = after (draw_at tape c M) [] (λ r p. (p.at - 1) ∷ places ms tape p)
