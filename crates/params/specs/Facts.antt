-- What is asked of the constants of a parameter set, as tests of numbers, which a literal passes by computing. The types of the constants keep them; `Laws` says them one by one.
use Rattle.std.specs.Prelude.{Bool, ℕ, ◌+◌, ◌-◌, ◌*◌, ◌^◌, eqb, leb, ltb}
use Rattle.numbers.specs.Tests.{both}
use Rattle.numbers.specs.Modulo.{q}

-- of the bounds of a kind
abbrev pub kind_holds : (a b ρ : ℕ) → Bool
kind_holds a b ρ = both (leb a b) (both (ltb b (a + 2 ^ ρ)) (both (leb (4 * b) q) (both (leb 1 ρ) (ltb (2 ^ ρ * q) (2 ^ 32)))))

-- of a set: of its own constants, and of the bound and the reach of each kind
abbrev pub set_holds : (γ1 γ2 β δ μ a1 b1 a2 b2 : ℕ) → Bool
set_holds γ1 γ2 β δ μ a1 b1 a2 b2 =
    both (both (ltb 1 γ1) (eqb (2 ^ μ) (2 * γ1)))
    (both (both (eqb (2 * γ2 * δ) (q - 1)) (both (leb 2 δ) (leb δ 63)))
    (both (both (eqb (a1 + β) γ1) (eqb b1 (γ1 + β))) (both (eqb (a2 + β) γ2) (eqb b2 γ2))))
