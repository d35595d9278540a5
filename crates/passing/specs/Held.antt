-- What the self test asks of a call, as a test of what the call tells.
use Rattle.std.specs.Prelude.{Bool, false, List, [], ◌∷◌, ℕ, eqb, get_or, replicate}
use Rattle.numbers.specs.Modulo.{q, add_mod}
use Rattle.numbers.specs.Tests.{both}
use Rattle.tape.specs.Tape.{Ran, ended, ran}
use Rattle.gate.specs.Told.{Told}

-- word i of a list
abbrev word : ℕ → List ℕ → ℕ
word i xs = get_or xs i 0

-- the output slice of two words before the call; no case gives a 7 in both
abbrev pub sevens : List ℕ
sevens = replicate 2 7

-- the tape of the cases in shares: small words, of which none is skipped
abbrev pub small_tape : List ℕ
small_tape = 3 ∷ 10 ∷ 17 ∷ 24 ∷ 31 ∷ 38 ∷ 45 ∷ 52 ∷ 59 ∷ 66 ∷ 73 ∷ 80 ∷ 87 ∷ 94 ∷ 0 ∷ 7 ∷ 14 ∷ 21 ∷ 28 ∷ 35 ∷ 42 ∷ 49 ∷ 56 ∷ 63 ∷ 41 ∷ 70 ∷ []

-- four words are those that are wanted
unfoldable pub held : (wanted shown : List ℕ) → Bool
held wanted shown =
    both (eqb (word 0 shown) (word 0 wanted))
    (both (eqb (word 1 shown) (word 1 wanted)) (both (eqb (word 2 shown) (word 2 wanted)) (eqb (word 3 shown) (word 3 wanted))))

-- what a case looks at of a call on two shares: the number, the words used, and both words of the output slice
unfoldable pub shares_shown : Told → List ℕ
shares_shown t = t.number ∷ t.used ∷ word 0 t.out ∷ word 1 t.out ∷ []

-- of steps that are no call: the words used and both shares; where the tape has ended, nothing is as wanted
unfoldable pub steps_held : (wanted : List ℕ) → Ran (List ℕ) → Bool
steps_held wanted ended = false
steps_held wanted (ran xs c) = held wanted (0 ∷ c.at ∷ word 0 xs ∷ word 1 xs ∷ [])

-- of Decompose: the number, the words used, the high part, and what both low shares recombine to
unfoldable pub parts_shown : Told → List ℕ
parts_shown t = t.number ∷ t.used ∷ word 0 t.others ∷ add_mod q (word 0 t.out) (word 1 t.out) ∷ []

-- of the verdict: the number, the words used, 1 if accepted, and the opened number
unfoldable pub verdict_shown : Told → List ℕ
verdict_shown t = t.number ∷ t.used ∷ word 0 t.others ∷ word 1 t.others ∷ []
