-- What an array of words with n beside it holds, and what a step gives.
use Rattle.std.specs.Prelude.{◌≡◌, List, ℕ, ◌≤◌, ◌<◌, length, take, Option, Some, None}
use Rattle.numbers.specs.Lists.{Words}
use Rattle.tape.specs.Tape.{Ran, ended, ran}
use Rattle.shares.specs.declared.Row.{Row}

-- n shares below M in an array of so many words; the words after them are below M too, so that a loop may run over all of them
pub record Held (size n M : ℕ) (words : List ℕ) : Type 0 where
  pub least : 2 ≤ n
  pub most : n ≤ size
  pub two : 2 ≤ M
  pub all : Words size M words

-- words copied into an array of so many: it begins with them, and what follows is below whatever they are below
pub record Copied (size : ℕ) (shares words : List ℕ) : Type 0 where
  pub first : take (length shares) words ≡ shares
  pub rest : (M : ℕ) → 0 < M → Words (length shares) M shares → Words size M words

-- what a step's answer stands for: n shares and the place of the next word, or that the tape has ended
abbrev pub shared : {size : ℕ} → ℕ → Option (Row size) → Ran (List ℕ)
shared n (Some row) = ran (take n row.words) row.cursor
shared n None = ended

-- a step gave x; and where the tape sufficed all words of the array are below M
abbrev pub Gave : {size : ℕ} → (n M : ℕ) → Option (Row size) → Ran (List ℕ) → Type 0
Gave {size} n M (Some row) x = (x ≡ ran (take n row.words) row.cursor) × Words size M row.words
Gave n M None x = x ≡ ended
