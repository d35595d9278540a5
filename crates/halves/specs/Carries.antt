-- The steps of modulus switching (document 01, "Steps": the conversion to mod q, widening and, but for the last step, Decompose).
use Rattle.std.specs.Prelude.{List, ℕ, ◌-◌, ◌*◌, ◌/◌, ◌%◌, ◌^◌, length, get_or}
use Rattle.numbers.specs.Modulo.{sub_mod}
use Rattle.numbers.specs.Lists.{along}
use Rattle.draws.specs.Draws.{Draws}
use Rattle.shares.specs.Sharing.{arithmetic}
use Rattle.first.specs.First.{add_to_first}
use Rattle.halves.specs.Shift.{shift}

-- floor(x·c/p) mod M, of each share x
unfoldable pub floors : ℕ → ℕ → ℕ → List ℕ → List ℕ
floors M c p xs = along (λ i x. x * c / p % M) xs

-- n - 1 added to the first share
unfoldable pub raised : ℕ → List ℕ → List ℕ
raised M xs = add_to_first (arithmetic M) (length xs - 1) xs

-- n - 1 added to the first share modulo 2^t·m, and then the shift by t, from 2^t·m to m
unfoldable pub raised_shift : (m t : ℕ) → List ℕ → Draws (List ℕ)
raised_shift m t xs = shift m t (raised (2 ^ t * m) xs)

-- the floors of x·c/p, raised and shifted
unfoldable pub carries : (m t c p : ℕ) → List ℕ → Draws (List ℕ)
carries m t c p xs = raised_shift m t (floors (2 ^ t * m) c p xs)

-- share i is x_i − c·e_i mod M
unfoldable pub without : ℕ → ℕ → List ℕ → List ℕ → List ℕ
without M c es xs = along (λ i x. sub_mod M x (c * get_or es i 0)) xs
