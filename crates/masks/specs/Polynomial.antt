-- Sampling of a polynomial (document 01, "Steps"): 256 coefficients, each in its row of the slice.
use Rattle.std.specs.Prelude.{List, ◌++◌, ℕ, ◌+◌, ◌*◌, length, take, drop}
use Rattle.params.specs.declared.Params.{Params}
use Rattle.draws.specs.Draws.{Draws, done, bind, each}
use Rattle.draws.specs.Plan.{repeated}
use Rattle.masks.specs.Sampling.{coefficient, coefficient_plan}

-- the words ys fill a slice from a place on
unfoldable pub filled : ℕ → List ℕ → List ℕ → List ℕ
filled place ys out = take place out ++ (ys ++ drop (place + length ys) out)

-- coefficient c fills the n words from place c·n
unfoldable pub row : Params → ℕ → ℕ → List ℕ → Draws (List ℕ)
row p n c out = bind (coefficient p n) (λ ys. done (filled (c * n) ys out))

-- 256 coefficients in order, on one tape
unfoldable pub polynomial : Params → ℕ → List ℕ → Draws (List ℕ)
polynomial p n out = each (row p n) 0 256 out

unfoldable pub polynomial_plan : Params → ℕ → List ℕ
polynomial_plan p n = repeated 256 (coefficient_plan p n)
