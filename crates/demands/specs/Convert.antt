-- What is claimed of Boolean to arithmetic, mod 2^k and mod q (document 01, "Steps" and "What a caller gets back"): the value is kept.
use Rattle.std.specs.Prelude.{ℕ, ◌≤◌}
use Rattle.numbers.specs.Modulo.{q}
use Rattle.rules.specs.ToArithmetic.{to_arithmetic_plan}
use Rattle.masks.specs.ToModulus.{to_modulus_plan}
use Rattle.demands.specs.Gadgets.{to_arithmetic_gadget, to_mod_q_gadget}
use Rattle.demands.specs.Claim.{Claim, keeping}

-- from an exclusive or of width k to a sum modulo 2^k
abbrev pub to_arithmetic_claim : ℕ → Claim
to_arithmetic_claim k = keeping (to_arithmetic_gadget k) ((1 ≤ k) × (k ≤ 31)) (λ n. to_arithmetic_plan k n)

-- from an exclusive or of width μ to a sum modulo q
abbrev pub to_mod_q_claim : ℕ → Claim
to_mod_q_claim μ = keeping (to_mod_q_gadget μ) ((1 ≤ μ) × (μ ≤ 20)) (λ n. to_modulus_plan q μ n)
