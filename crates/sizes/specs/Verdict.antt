-- The verdict on shares of one coefficient (document 01, "Steps"), by the bounds of its kind.
use Rattle.std.specs.Prelude.{List, [], ◌∷◌, ◌++◌, ℕ, eqb}
use Rattle.numbers.specs.Tests.{pick}
use Rattle.numbers.specs.Modulo.{q}
use Rattle.params.specs.declared.Bounds.{Bounds}
use Rattle.draws.specs.Draws.{Draws, done, bind}
use Rattle.shares.specs.Sharing.{arithmetic, value}
use Rattle.gate.specs.Told.{Outcome}
use Rattle.sizes.specs.Widening.{widen, widen_plan}
use Rattle.sizes.specs.ZeroTest.{zero_test, scales_plan}
use Rattle.sizes.specs.Sides.{sides_product, sides_plan}

-- the shares that are opened
unfoldable pub tested : Bounds → List ℕ → Draws (List ℕ)
tested bounds xs = bind (widen bounds xs) (λ ws. bind (sides_product bounds ws) (zero_test q))

-- zero rejects, all else accepts
unfoldable pub verdict_of : ℕ → ℕ
verdict_of opened = pick (eqb opened 0) 0 1

-- the answer has the verdict and the opened number, and no shares
abbrev pub judged : ℕ → Outcome
judged opened = record { others = verdict_of opened ∷ opened ∷ []; shares = [] }

-- so the sum is opened
unfoldable pub verdict : Bounds → List ℕ → Draws Outcome
verdict bounds xs = bind (tested bounds xs) (λ ts. done (judged (value (arithmetic q) ts)))

-- the plans: of all that comes before the zero test, and of the whole
unfoldable pub front_plan : Bounds → ℕ → List ℕ
front_plan bounds n = widen_plan bounds n ++ sides_plan bounds n

unfoldable pub verdict_plan : Bounds → ℕ → List ℕ
verdict_plan bounds n = front_plan bounds n ++ scales_plan q n n
