-- The shift by t, from 2^t·m to m: t halvings, each below its own modulus (document 01, "Steps").
use Rattle.std.specs.Prelude.{List, [], ◌++◌, ℕ, zero, suc, ◌*◌, ◌^◌}
use Rattle.draws.specs.Draws.{Draws, done, bind}
use Rattle.halves.specs.Halving.{halving, halving_plan}

unfoldable pub shift : ℕ → ℕ → List ℕ → Draws (List ℕ)
shift m zero xs = done xs
shift m (suc t) xs = bind (halving (2 ^ t * m) xs) (λ ys. shift m t ys)

-- its plan
unfoldable pub shift_plan : ℕ → ℕ → ℕ → List ℕ
shift_plan m zero n = []
shift_plan m (suc t) n = halving_plan (2 ^ t * m) n ++ shift_plan m t n
