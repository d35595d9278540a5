-- FIPS 204's Decompose of a residue r below q: r0 is the remainder of r by 2γ2 in −γ2 < r0 ≤ γ2, and r1 = (r − r0) / 2γ2; but where r − r0 = q − 1,
-- r1 is 0 and r0 is less by 1.
use Rattle.std.specs.Prelude.{Bool, ℕ, ◌-◌, ◌*◌, ◌/◌, ◌%◌, eqb, ℤ, pos, nat_abs, ◌-ℤ◌}
use Rattle.numbers.specs.Modulo.{q}
use Rattle.numbers.specs.Tests.{pick}
use Rattle.numbers.specs.Centred.{centred}

-- r mod± 2γ2
unfoldable pub remainder : (γ2 r : ℕ) → ℤ
remainder γ2 r = centred (2 * γ2) (r % (2 * γ2))

-- r − r0, which is not negative (Remainder.antt)
unfoldable pub multiple : (γ2 r : ℕ) → ℕ
multiple γ2 r = nat_abs (pos r -ℤ remainder γ2 r)

-- the exception: r − r0 = q − 1
unfoldable pub exception : (γ2 r : ℕ) → Bool
exception γ2 r = eqb (multiple γ2 r) (q - 1)

-- r1, and r0
unfoldable pub high_of : (γ2 r : ℕ) → ℕ
high_of γ2 r = pick (exception γ2 r) 0 (multiple γ2 r / (2 * γ2))

unfoldable pub low_of : (γ2 r : ℕ) → ℤ
low_of γ2 r = pick (exception γ2 r) (remainder γ2 r -ℤ pos 1) (remainder γ2 r)
