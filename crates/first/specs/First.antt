-- A number added to the first share, or taken from it.
use Rattle.std.specs.Prelude.{List, ℕ}
use Rattle.numbers.specs.Lists.{change}
use Rattle.shares.specs.Sharing.{Sharing, plus, minus}

unfoldable pub add_to_first : Sharing → ℕ → List ℕ → List ℕ
add_to_first s r xs = change (λ x. plus s x r) 0 xs

unfoldable pub take_from_first : Sharing → ℕ → List ℕ → List ℕ
take_from_first s r xs = change (λ x. minus s x r) 0 xs
