-- The three parameter sets and their constants (document 01, "What the library covers").
use Rattle.std.specs.Prelude.{Bool, true, false, ℕ, eqb, Option, Some, None, IsTrue, is_some, unwrap_or, option_map}
use Rattle.std.proofs.Common.{refl}
use Rattle.numbers.specs.Tests.{pick}
use Rattle.params.specs.Facts.{kind_holds, set_holds}
use Rattle.params.specs.declared.Bounds.{Bounds}
use Rattle.params.specs.declared.Kind.{Kind}
use Rattle.params.specs.declared.Kind.TheVariants.{Z, R}
use Rattle.params.specs.declared.Params.{Params}

-- bound a, reach b and shift ρ of a kind
abbrev pub bounds : (a b ρ : ℕ) → IsTrue (kind_holds a b ρ) → Bounds
bounds a b ρ h = record { a = a; b = b; rho = ρ; holds = h }

-- γ1, γ2, β, δ and μ of a set; kind 1 is z, kind 2 is r̃
abbrev pub params : (γ1 γ2 β δ μ : ℕ) (kind1 kind2 : Bounds) → IsTrue (set_holds γ1 γ2 β δ μ kind1.a kind1.b kind2.a kind2.b) → Params
params γ1 γ2 β δ μ kind1 kind2 h = record { gamma1 = γ1; gamma2 = γ2; beta = β; delta = δ; mu = μ; kind1 = kind1; kind2 = kind2; holds = h }

-- what a test that holds gives
abbrev where_true : {A : Type 0} → (test : Bool) → (IsTrue test → Option A) → Option A
where_true true f = f refl
where_true false f = None

-- the set of these constants, with a, b and ρ of each kind; there is none where they are not as asked
abbrev pub set : (γ1 γ2 β δ μ a1 b1 ρ1 a2 b2 ρ2 : ℕ) → Option Params
set γ1 γ2 β δ μ a1 b1 ρ1 a2 b2 ρ2 =
    where_true (kind_holds a1 b1 ρ1)
    (λ h1. where_true (kind_holds a2 b2 ρ2)
    (λ h2. where_true (set_holds γ1 γ2 β δ μ a1 b1 a2 b2)
    (λ h. Some (params γ1 γ2 β δ μ (bounds a1 b1 ρ1 h1) (bounds a2 b2 ρ2 h2) h))))

abbrev pub set44 : Option Params
set44 = set 131072 95232 78 44 18 130994 131150 8 95154 95232 7

abbrev pub set65 : Option Params
set65 = set 524288 261888 196 16 20 524092 524484 9 261692 261888 8

abbrev pub set87 : Option Params
set87 = set 524288 261888 120 16 20 524168 524408 8 261768 261888 7

-- the set of a number; another number has none
unfoldable pub set_of : ℕ → Option Params
set_of s = pick (eqb s 44) set44 (pick (eqb s 65) set65 (pick (eqb s 87) set87 None))

-- the number of a kind, and the kind of a number; another number has none
abbrev pub kind_number : Kind → ℕ
kind_number Z = 1
kind_number R = 2

abbrev pub kind_of_number : ℕ → Option Kind
kind_of_number k = pick (eqb k 1) (Some Z) (pick (eqb k 2) (Some R) None)

-- the bounds of kind 1, or of kind 2. Another number is refused; what this says of it counts for nothing
unfoldable pub of_kind : Params → ℕ → Bounds
of_kind p kind = pick (eqb kind 1) p.kind1 p.kind2

-- the bounds of a kind of a set; an unknown set, or a kind that is not 1 or 2, has none
unfoldable pub bounds_of : (set kind : ℕ) → Option Bounds
bounds_of set kind = pick (is_some (kind_of_number kind)) (option_map (λ p. of_kind p kind) (set_of set)) None

-- a number in its range: 44, 65 or 87
pub data Known : ℕ → Type 0 where
  is_44 : Known 44
  is_65 : Known 65
  is_87 : Known 87

-- the same as a test
unfoldable pub known : ℕ → Bool
known s = is_some (set_of s)

-- constants that are as asked and of no set: what stands where a definition has to name some
abbrev pub no_set : Params
no_set = params 2 95232 0 44 2 (bounds 2 2 1 refl) (bounds 95232 95232 1 refl) refl

-- the constants of a set. A number that has none is refused; what this says of it, the constants of 44, counts for nothing
unfoldable pub params_of : ℕ → Params
params_of s = unwrap_or (set_of s) (unwrap_or set44 no_set)

-- the bounds of a kind of a set
abbrev pub kind_of : (set kind : ℕ) → Bounds
kind_of set kind = of_kind (params_of set) kind
