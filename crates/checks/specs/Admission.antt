-- What the checks answer: what was found for a gadget's parameters, or why the call is refused.
use Rattle.std.specs.Prelude.{◌≡◌, Bool, ℕ, List, Option, Some, Result, Ok, Err}
use Rattle.checks.specs.declared.Refusal.{Refusal}
use Rattle.checks.specs.declared.Refusal.TheVariants.{ShareCount, Room, Parameters, Share, TapeEnded}
use Rattle.checks.specs.Checks.{first_failing}

-- the number of each (document 01, "What a caller gets back")
abbrev pub refusal_number : Refusal → ℕ
refusal_number ShareCount = 1
refusal_number Room = 2
refusal_number Parameters = 3
refusal_number Share = 4
refusal_number TapeEnded = 5

-- no check fails, and t is what was found
pub record Handed {T : Type 0} (cs : List (ℕ × Bool)) (found : Option T) (t : T) : Type 0 where
  pub passes : first_failing cs ≡ 0
  pub is : found ≡ Some t

-- what was found, where no check fails; else the number of the first that does
abbrev pub Admits : {T : Type 0} → List (ℕ × Bool) → Option T → Result T Refusal → Type 0
Admits cs found (Ok t) = Handed cs found t
Admits cs found (Err r) = first_failing cs ≡ refusal_number r
