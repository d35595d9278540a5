-- Which draws of the closing refresh are set anew, and what "the same other shares" are (demand 3).
use Rattle.std.specs.Prelude.{◌≡◌, ◌≢◌, Bool, true, List, ℕ, ◌-◌, ◌<◌, get_or, replicate}

-- all n - 1 draws of a closing refresh of n shares
unfoldable pub closing_marks : ℕ → List Bool
closing_marks n = replicate (n - 1) true

-- two lists of n shares are the same but for share j
abbrev pub SameBut : ℕ → ℕ → List ℕ → List ℕ → Type 0
SameBut n j xs ys = (i : ℕ) → i < n → i ≢ j → get_or xs i 0 ≡ get_or ys i 0
