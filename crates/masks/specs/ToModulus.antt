-- Boolean shares of width μ to arithmetic ones modulo Q, which document 01 has at Q = q ("Steps").
use Rattle.std.specs.Prelude.{List, ◌++◌, ℕ, ◌+◌, ◌^◌, length}
use Rattle.numbers.specs.Bits.{alpha}
use Rattle.draws.specs.Draws.{Draws, done, bind}
use Rattle.halves.specs.Shift.{shift_plan}
use Rattle.rules.specs.ToArithmetic.{to_arithmetic, to_arithmetic_plan}
use Rattle.halves.specs.Carries.{carries, without}

-- convert with k = μ + α; floor(x_i/2^μ) mod 2^α·Q, n - 1 added to the first, shifted by α, gives e_i; share i is x_i − 2^k·e_i mod Q
unfoldable pub to_modulus : (Q μ : ℕ) → List ℕ → Draws (List ℕ)
to_modulus Q μ xs =
    let α : ℕ = alpha (length xs) in
    let k : ℕ = μ + α in
    bind (to_arithmetic k xs) (λ ys.
    bind (carries Q α 1 (2 ^ μ) ys) (λ es.
    done (without Q (2 ^ k) es ys)))

-- its plan: the conversion's, and then the shift's
unfoldable pub to_modulus_plan : (Q μ n : ℕ) → List ℕ
to_modulus_plan Q μ n = to_arithmetic_plan (μ + alpha n) n ++ shift_plan Q (alpha n) n
