-- Arithmetic shares mod 2^k to Boolean shares of width k, bit by bit, with a halving between bits (document 01, "Steps").
use Rattle.std.specs.Prelude.{List, ℕ, zero, suc, ◌+◌, ◌-◌, ◌*◌, ◌^◌, length, get_or, replicate}
use Rattle.numbers.specs.Lists.{along}
use Rattle.draws.specs.Draws.{Draws, done, bind}
use Rattle.halves.specs.Halving.{parity, halving}
use Rattle.halves.specs.Shift.{shift_plan}

-- bit b of each Boolean share is the parity of the arithmetic share at its place
unfoldable pub with_bit : ℕ → List ℕ → List ℕ → List ℕ
with_bit b xs ys = along (λ i y. y + 2 ^ b * parity (get_or xs i 0)) ys

-- the bits from b on, ys having those before it, with so many halvings to come
unfoldable pub bits_from : ℕ → ℕ → List ℕ → List ℕ → Draws (List ℕ)
bits_from b zero xs ys = done (with_bit b xs ys)
bits_from b (suc h) xs ys = bind (halving (2 ^ suc h) xs) (λ zs. bits_from (suc b) h zs (with_bit b xs ys))

-- k bits, with k - 1 halvings between them
unfoldable pub to_boolean : ℕ → List ℕ → Draws (List ℕ)
to_boolean k xs = bits_from 0 (k - 1) xs (replicate (length xs) 0)

-- its plan: that of the halvings from 2^k to 2
unfoldable pub to_boolean_plan : ℕ → ℕ → List ℕ
to_boolean_plan k n = shift_plan 2 (k - 1) n
