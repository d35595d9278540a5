-- The answer is unique: whatever meets the promise of a gadget is that one answer.
use Rattle.std.specs.Prelude.{◌≡◌, List, ℕ}
use Rattle.gate.specs.Told.{Told}

-- a promise has the form `stands r out ≡ t`: what the answer r and the output slice stand for is t. At most one r and one out meet it
abbrev pub Unique : {R : Type 0} → (R → List ℕ → Told) → Told → Type 0
Unique {R} stands t = (r s : R) (out filled : List ℕ) → stands r out ≡ t → stands s filled ≡ t → (r ≡ s) × (out ≡ filled)

-- the same of an answer without an output slice
abbrev pub UniqueAnswer : {R : Type 0} → (R → Told) → Told → Type 0
UniqueAnswer {R} stands t = (r s : R) → stands r ≡ t → stands s ≡ t → r ≡ s
