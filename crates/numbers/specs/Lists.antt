-- Lists of words below M, and what shares recombine to: their sum, or their exclusive or (document 01, "What the library covers").
-- And the two loops without draws: along a list, and a number of times.
use Rattle.std.specs.Prelude.{◌≡◌, List, [], ◌∷◌, ℕ, zero, suc, ◌+◌, ◌<◌, length, get_or, set}
use Rattle.numbers.specs.Modulo.{xor}

-- a list of n words, each below M
pub record Words (n M : ℕ) (xs : List ℕ) : Type 0 where
  pub size : length xs ≡ n
  pub below : (i : ℕ) → i < n → get_or xs i 0 < M

-- the words put together by add
unfoldable pub fold : (ℕ → ℕ → ℕ) → List ℕ → ℕ
fold add [] = 0
fold add (x ∷ xs) = add x (fold add xs)

unfoldable pub sum : List ℕ → ℕ
sum xs = fold ◌+◌ xs

unfoldable pub xor_all : List ℕ → ℕ
xor_all xs = fold xor xs

-- f at the place i of a list
unfoldable pub change : (ℕ → ℕ) → ℕ → List ℕ → List ℕ
change f i xs = set xs i (f (get_or xs i 0))

-- f i x for each word x, at its place i
unfoldable pub along : (ℕ → ℕ → ℕ) → List ℕ → List ℕ
along f [] = []
along f (x ∷ xs) = f 0 x ∷ along (λ i. f (suc i)) xs

-- f 0, then f 1 and so on, k of them
unfoldable pub over : {A : Type 0} → (ℕ → A → A) → ℕ → A → A
over f zero a = a
over f (suc k) a = f k (over f k a)
