-- Decompose (document 01, "Steps"), but for its closing refresh.
use Rattle.std.specs.Prelude.{List, [], ◌∷◌, ◌++◌, ℕ, ◌+◌, ◌*◌, ◌^◌, length}
use Rattle.numbers.specs.Modulo.{q}
use Rattle.numbers.specs.Bits.{alpha}
use Rattle.params.specs.declared.Params.{Params}
use Rattle.draws.specs.Draws.{Draws, done, bind}
use Rattle.shares.specs.Sharing.{arithmetic, value}
use Rattle.shares.specs.Refresh.{refresh, refresh_plan}
use Rattle.first.specs.First.{add_to_first, take_from_first}
use Rattle.halves.specs.Shift.{shift_plan}
use Rattle.halves.specs.Carries.{carries}
use Rattle.gate.specs.Told.{Outcome}

-- the shift, for n shares: by 23 + α
abbrev pub high_shift : ℕ → ℕ
high_shift n = 23 + alpha n

-- shares mod δ of the high part: γ2 is added to the first share of a copy; the floors of x_i·δ·2^(23+α)/q mod δ·2^(23+α), n − 1 added to the first, are
-- shifted by 23 + α and refreshed
unfoldable pub high_shares : Params → List ℕ → Draws (List ℕ)
high_shares p xs =
    let t : ℕ = high_shift (length xs) in
    bind (carries p.delta t (p.delta * 2 ^ t) q (add_to_first (arithmetic q) p.gamma2 xs)) (refresh (arithmetic p.delta))

-- their sum mod δ is opened
unfoldable pub high_part : Params → List ℕ → Draws ℕ
high_part p xs = bind (high_shares p xs) (λ hs. done (value (arithmetic p.delta) hs))

-- the plan so far: the shift's, and then the refresh's
unfoldable pub high_plan : Params → ℕ → List ℕ
high_plan p n = shift_plan p.delta (high_shift n) n ++ refresh_plan (arithmetic p.delta) n

-- the low shares are the input with 2γ2 times the high part taken from the first share mod q
unfoldable pub low_shares : Params → ℕ → List ℕ → List ℕ
low_shares p high xs = take_from_first (arithmetic q) (2 * p.gamma2 * high) xs

-- so the high part is opened, and the low shares are given
unfoldable pub decompose : Params → List ℕ → Draws Outcome
decompose p xs = bind (high_part p xs) (λ high. done (record { others = high ∷ []; shares = low_shares p high xs }))
