-- The refresh, modulo M and Boolean (document 01, "Steps"). Shares are counted from 0 here, from 1 there.
use Rattle.std.specs.Prelude.{List, ℕ, ◌-◌, length, replicate}
use Rattle.draws.specs.Draws.{Draws, done, draw, each}
use Rattle.shares.specs.Sharing.{Sharing, bound, move}

-- one turn: a draw r below M (2^k), added to share i and taken from the last
unfoldable pub turn : Sharing → ℕ → ℕ → List ℕ → Draws (List ℕ)
turn s last i xs = draw (bound s) (λ r. done (move s last i r xs))

-- for each share but the last, in order, one turn
unfoldable pub refresh : Sharing → List ℕ → Draws (List ℕ)
refresh s xs = each (turn s (length xs - 1)) 0 (length xs - 1) xs

-- its plan: n - 1 draws
unfoldable pub refresh_plan : Sharing → ℕ → List ℕ
refresh_plan s n = replicate (n - 1) (bound s)
