-- Primes. Modulo a prime a product of residues is zero exactly where a factor is, and each residue that is not zero leads to each such residue by exactly
-- one factor that is not zero (`zero_exactly` and `one_factor`); q is one (`q_prime`).
use Rattle.std.specs.Prelude.{◌≡◌, ◌≢◌, ℕ, ◌*◌, ◌%◌, ◌<◌}

-- a number above 1 that no number between 1 and it divides
pub record Prime (p : ℕ) : Type 0 where
  pub more : 1 < p
  pub undivided : (a : ℕ) → 1 < a → a < p → p % a ≢ 0

-- of the numbers from 1 to p − 1 exactly one leads from a to c as a factor modulo p
pub record OneFactor (p a c : ℕ) : Type 0 where
  pub factor : ℕ
  pub least : 0 < factor
  pub most : factor < p
  pub leads : (a * factor) % p ≡ c
  pub only : (s : ℕ) → s < p → (a * s) % p ≡ c → s ≡ factor
