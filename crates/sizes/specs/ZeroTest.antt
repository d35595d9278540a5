-- The zero test of shares (document 01, "Steps").
use Rattle.std.specs.Prelude.{List, ◌∷◌, ℕ, ◌+◌, ◌-◌, ◌*◌, ◌%◌, length}
use Rattle.numbers.specs.Lists.{along}
use Rattle.draws.specs.Draws.{Draws, draw, each}
use Rattle.draws.specs.Plan.{repeated}
use Rattle.shares.specs.Sharing.{arithmetic}
use Rattle.shares.specs.Refresh.{refresh, refresh_plan}

-- every share times c
unfoldable pub scaled : (M c : ℕ) → List ℕ → List ℕ
scaled M c xs = along (λ i x. x * c % M) xs

-- a draw below M − 1, plus 1, times every share; and a refresh
unfoldable pub scale_turn : ℕ → ℕ → List ℕ → Draws (List ℕ)
scale_turn M i xs = draw (M - 1) (λ r. refresh (arithmetic M) (scaled M (r + 1) xs))

-- the same n times
unfoldable pub zero_test : ℕ → List ℕ → Draws (List ℕ)
zero_test M xs = each (scale_turn M) 0 (length xs) xs

-- the plans: of one turn, and of so many
unfoldable pub scale_plan : (M n : ℕ) → List ℕ
scale_plan M n = (M - 1) ∷ refresh_plan (arithmetic M) n

unfoldable pub scales_plan : (M n turns : ℕ) → List ℕ
scales_plan M n turns = repeated turns (scale_plan M n)
