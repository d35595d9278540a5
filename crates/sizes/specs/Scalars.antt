-- The scalars of a zero test, by its draws.
use Rattle.std.specs.Prelude.{List, ℕ, ◌+◌, ◌*◌, get_or}
use Rattle.numbers.specs.Lists.{over}

-- the scalar of turn i of a zero test with n shares, by the draws rs of all turns: a turn makes n draws, of which the first, plus 1, is its scalar
unfoldable pub scalar_of : (n : ℕ) → (rs : List ℕ) → ℕ → ℕ
scalar_of n rs i = get_or rs (i * n) 0 + 1

-- the scalars of so many turns, multiplied
unfoldable pub scalars_of : (n : ℕ) → (rs : List ℕ) → (turns : ℕ) → ℕ
scalars_of n rs turns = over (λ i s. s * scalar_of n rs i) turns 1
