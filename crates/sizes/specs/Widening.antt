-- Widening, q to 2^ρ·q (document 01, "Steps"): by the bounds of a kind, of which it takes the reach b and the shift ρ.
use Rattle.std.specs.Prelude.{List, ℕ, ◌+◌, ◌*◌, ◌^◌, length}
use Rattle.numbers.specs.Modulo.{q}
use Rattle.numbers.specs.Bits.{alpha}
use Rattle.params.specs.declared.Bounds.{Bounds}
use Rattle.draws.specs.Draws.{Draws, done, bind}
use Rattle.shares.specs.Sharing.{Sharing, arithmetic}
use Rattle.first.specs.First.{add_to_first, take_from_first}
use Rattle.halves.specs.Shift.{shift_plan}
use Rattle.halves.specs.Carries.{carries, without}

-- 2^ρ·q, and how the widened shares recombine
abbrev pub wide : Bounds → ℕ
wide bounds = 2 ^ bounds.rho * q

abbrev pub widened : Bounds → Sharing
widened bounds = arithmetic (wide bounds)

-- the shift, for n shares: by α + 1
abbrev pub widen_shift : ℕ → ℕ
widen_shift n = alpha n + 1

-- b is added to the first share mod q; the floors of x_i·2^(α+1)/q mod 2^(α+1+ρ), n − 1 added to the first and shifted by α + 1, are e_i; share i is
-- x_i − q·e_i mod 2^ρ·q; and b is taken from the first share
unfoldable pub widen : Bounds → List ℕ → Draws (List ℕ)
widen bounds xs =
    let t : ℕ = widen_shift (length xs) in
    let ys : List ℕ = add_to_first (arithmetic q) bounds.b xs in
    bind (carries (2 ^ bounds.rho) t (2 ^ t) q ys) (λ es.
    done (take_from_first (widened bounds) bounds.b (without (wide bounds) q es ys)))

-- its plan: the shift's
unfoldable pub widen_plan : Bounds → ℕ → List ℕ
widen_plan bounds n = shift_plan (2 ^ bounds.rho) (widen_shift n) n
