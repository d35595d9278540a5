-- Boolean shares of width k to arithmetic ones mod 2^k (document 01, "Steps"). Shares are counted from 0 here, from 1 there.
use Rattle.std.specs.Prelude.{List, [], ◌∷◌, ◌++◌, ℕ, ◌-◌, ◌*◌, ◌^◌, length, replicate}
use Rattle.draws.specs.Draws.{Draws}
use Rattle.rules.specs.Rule.{rule}

-- a zero share is appended, and the rule applied to n + 1 shares
unfoldable pub to_arithmetic : ℕ → List ℕ → Draws (List ℕ)
to_arithmetic k xs = rule k (length xs - 1) (xs ++ (0 ∷ []))

-- its plan: 3·2^d − n − 2 draws, for d = n − 1
unfoldable pub to_arithmetic_plan : ℕ → ℕ → List ℕ
to_arithmetic_plan k n = replicate (3 * 2 ^ (n - 1) - n - 2) (2 ^ k)
