-- Both sides of widened shares, and their product (document 01, "Steps": the verdict), by the bounds of a kind.
use Rattle.std.specs.Prelude.{List, ◌++◌, ℕ}
use Rattle.numbers.specs.Modulo.{q}
use Rattle.params.specs.declared.Bounds.{Bounds}
use Rattle.draws.specs.Draws.{Draws, bind}
use Rattle.shares.specs.Sharing.{arithmetic, negated}
use Rattle.shares.specs.Refresh.{refresh, refresh_plan}
use Rattle.first.specs.First.{take_from_first}
use Rattle.halves.specs.Shift.{shift, shift_plan}
use Rattle.sizes.specs.Widening.{wide, widened}
use Rattle.sizes.specs.Product.{product, product_plan}

-- one side of widened shares: a is taken from the first share, and they are shifted by ρ, from 2^ρ·q to q
unfoldable pub side : Bounds → List ℕ → Draws (List ℕ)
side bounds ws = shift q bounds.rho (take_from_first (widened bounds) bounds.a ws)

-- left is that side of the widened shares, right that of all of them negated; left is refreshed mod q, and the two are multiplied mod q
unfoldable pub sides_product : Bounds → List ℕ → Draws (List ℕ)
sides_product bounds ws =
    bind (side bounds ws) (λ left.
    bind (side bounds (negated (wide bounds) ws)) (λ right.
    bind (refresh (arithmetic q) left) (λ fresh.
    product q fresh right)))

-- the plan
unfoldable pub sides_plan : Bounds → ℕ → List ℕ
sides_plan bounds n = shift_plan q bounds.rho n ++ (shift_plan q bounds.rho n ++ (refresh_plan (arithmetic q) n ++ product_plan q n))
