-- The checks before a gadget runs, and their order (document 01, "What a caller gets back").
use Rattle.std.specs.Prelude.{◌≡◌, Bool, true, List, [], ◌∷◌, ℕ, ◌≤◌, length, leb, ltb, eqb}
use Rattle.numbers.specs.Tests.{both, pick}
use Rattle.numbers.specs.Lists.{Words}

-- a number from low to high
unfoldable pub inside : ℕ → ℕ → ℕ → Bool
inside low high x = both (leb low x) (leb x high)

-- every word below M
unfoldable pub all_below : ℕ → List ℕ → Bool
all_below M [] = true
all_below M (x ∷ xs) = both (ltb x M) (all_below M xs)

-- checks run in order; the first that fails answers with its number, and 0 is that none does
unfoldable pub first_failing : List (ℕ × Bool) → ℕ
first_failing [] = 0
first_failing (c ∷ cs) = pick c.1 (first_failing cs) c.0

-- the share count n, the room in an output slice that is to have so many words, the parameters; then what else there is to check
unfoldable pub checks_of : (n room words : ℕ) → Bool → List (ℕ × Bool) → List (ℕ × Bool)
checks_of n room words in_range more = (1, inside 2 8 n) ∷ (2, eqb room words) ∷ (3, in_range) ∷ more

-- of a gadget on shares: also the shares
unfoldable pub checks : List ℕ → ℕ → Bool → ℕ → List (ℕ × Bool)
checks shares room in_range M = checks_of (length shares) room (length shares) in_range ((4, all_below M shares) ∷ [])

-- the checks but those of one number
unfoldable pub leave_out : ℕ → List (ℕ × Bool) → List (ℕ × Bool)
leave_out k [] = []
leave_out k (c ∷ cs) = pick (eqb c.0 k) (leave_out k cs) (c ∷ leave_out k cs)

-- where none fails of a gadget on shares: two to eight of them, below M, and an output slice of as many words
pub record Checked (shares : List ℕ) (room M : ℕ) : Type 0 where
  pub least : 2 ≤ length shares
  pub most : length shares ≤ 8
  pub below : Words (length shares) M shares
  pub fits : room ≡ length shares
