-- The public gadgets, each with its parameters given (document 01, "Steps"; the ranges of the parameters, "What a caller gets back").
use Rattle.std.specs.Prelude.{Bool, ℕ, ◌/◌, ◌%◌, ◌^◌, leb, eqb, length, replicate}
use Rattle.numbers.specs.Tests.{both}
use Rattle.numbers.specs.Modulo.{q}
use Rattle.params.specs.Sets.{known, params_of, kind_of}
use Rattle.draws.specs.Draws.{done}
use Rattle.shares.specs.Sharing.{arithmetic, boolean}
use Rattle.halves.specs.Shift.{shift}
use Rattle.halves.specs.ToBoolean.{to_boolean}
use Rattle.rules.specs.ToArithmetic.{to_arithmetic}
use Rattle.masks.specs.ToModulus.{to_modulus}
use Rattle.masks.specs.Sampling.{coefficient}
use Rattle.masks.specs.Polynomial.{polynomial}
use Rattle.checks.specs.Checks.{inside}
use Rattle.gate.specs.Gadget.{Gadget, silent_gadget}
use Rattle.gate.specs.Sampler.{Sampler}
use Rattle.gate.specs.Judge.{Judge}
use Rattle.parts.specs.Decompose.{decompose}
use Rattle.sizes.specs.Widening.{widened, widen}
use Rattle.sizes.specs.Verdict.{verdict}

-- the closing refresh alone, modulus from 2 to 4294967295
unfoldable pub refresh_gadget : ℕ → Gadget
refresh_gadget M = silent_gadget (inside 2 4294967295 M) (arithmetic M) (arithmetic M) done

-- and of width from 1 to 31
unfoldable pub boolean_gadget : ℕ → Gadget
boolean_gadget k = silent_gadget (inside 1 31 k) (boolean k) (boolean k) done

-- M at most 4294967295, t from 1 to 31, 2^t dividing M, and M/2^t at least 2
unfoldable pub shift_range : ℕ → ℕ → Bool
shift_range M t = both (leb M 4294967295) (both (inside 1 31 t) (both (eqb (M % 2 ^ t) 0) (leb 2 (M / 2 ^ t))))

-- modulo M to modulo M/2^t
unfoldable pub shift_gadget : ℕ → ℕ → Gadget
shift_gadget M t = silent_gadget (shift_range M t) (arithmetic M) (arithmetic (M / 2 ^ t)) (shift (M / 2 ^ t) t)

-- width k to modulo 2^k, k from 1 to 31
unfoldable pub to_arithmetic_gadget : ℕ → Gadget
to_arithmetic_gadget k = silent_gadget (inside 1 31 k) (boolean k) (arithmetic (2 ^ k)) (to_arithmetic k)

-- modulo 2^k to width k, k from 1 to 31
unfoldable pub to_boolean_gadget : ℕ → Gadget
to_boolean_gadget k = silent_gadget (inside 1 31 k) (arithmetic (2 ^ k)) (boolean k) (to_boolean k)

-- width μ to modulo q, μ from 1 to 20
unfoldable pub to_mod_q_gadget : ℕ → Gadget
to_mod_q_gadget μ = silent_gadget (inside 1 20 μ) (boolean μ) (arithmetic q) (to_modulus q μ)

-- one coefficient, of set 44, 65 or 87
unfoldable pub sampler : ℕ → Sampler
sampler set = record { in_range = known set; coefficients = 1; steps = λ n out. coefficient (params_of set) n; short = λ out. out }

-- a polynomial; number 5 sets all words of its slice to 0
unfoldable pub polynomial_sampler : ℕ → Sampler
polynomial_sampler set =
    record {
      in_range = known set;
      coefficients = 256;
      steps = λ n out. polynomial (params_of set) n out;
      short = λ out. replicate (length out) 0;
    }

-- set 44, 65 or 87, and kind 1 or 2
unfoldable pub kind_range : (set kind : ℕ) → Bool
kind_range set kind = both (known set) (inside 1 2 kind)

-- modulo q to modulo 2^ρ·q
unfoldable pub widen_gadget : (set kind : ℕ) → Gadget
widen_gadget set kind = silent_gadget (kind_range set kind) (arithmetic q) (widened (kind_of set kind)) (widen (kind_of set kind))

-- modulo q, with one number opened; set 44, 65 or 87
unfoldable pub decompose_gadget : ℕ → Gadget
decompose_gadget set = record { in_range = known set; input = arithmetic q; output = arithmetic q; fields = 1; steps = decompose (params_of set) }

-- modulo q, with no shares in its answer, but the verdict and the opened number
unfoldable pub verdict_gadget : (set kind : ℕ) → Judge
verdict_gadget set kind = record { in_range = kind_range set kind; input = arithmetic q; fields = 2; steps = verdict (kind_of set kind) }
