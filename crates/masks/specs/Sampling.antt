-- Sampling of one coefficient (document 01, "Steps"). Shares are counted from 0 here, from 1 there.
use Rattle.std.specs.Prelude.{List, ◌++◌, ℕ, ◌-◌, ◌^◌, replicate}
use Rattle.numbers.specs.Modulo.{q}
use Rattle.params.specs.declared.Params.{Params}
use Rattle.draws.specs.Draws.{Draws, bind}
use Rattle.draws.specs.Plan.{draw_all}
use Rattle.shares.specs.Sharing.{arithmetic}
use Rattle.shares.specs.Refresh.{refresh, refresh_plan}
use Rattle.first.specs.First.{take_from_first}
use Rattle.masks.specs.ToModulus.{to_modulus, to_modulus_plan}

-- γ1 − 1 taken from the first share
unfoldable pub lowered : ℕ → List ℕ → List ℕ
lowered γ1 xs = take_from_first (arithmetic q) (γ1 - 1) xs

-- what is drawn first: n words below 2^μ, as Boolean shares
abbrev pub mask_plan : Params → ℕ → List ℕ
mask_plan p n = replicate n (2 ^ p.mu)

-- then they are converted to mod q, lowered by γ1 − 1, and closed
abbrev pub masked : Params → List ℕ → Draws (List ℕ)
masked p xs = bind (to_modulus q p.mu xs) (λ ys. refresh (arithmetic q) (lowered p.gamma1 ys))

-- one coefficient
unfoldable pub coefficient : Params → ℕ → Draws (List ℕ)
coefficient p n = bind (draw_all (mask_plan p n)) (masked p)

unfoldable pub coefficient_plan : Params → ℕ → List ℕ
coefficient_plan p n = mask_plan p n ++ (to_modulus_plan q p.mu n ++ refresh_plan (arithmetic q) n)
