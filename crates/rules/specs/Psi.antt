-- Ψ, and the lists that the rule of Boolean to arithmetic makes (document 01, "Steps"). Shares are counted from 0 here, from 1 there.
use Rattle.std.specs.Prelude.{List, [], ◌∷◌, ◌++◌, ℕ, ◌-◌, ◌%◌, ◌^◌, length, get_or, take, eqb}
use Rattle.numbers.specs.Tests.{pick}
use Rattle.numbers.specs.Modulo.{add_mod, sub_mod, xor}
use Rattle.numbers.specs.Lists.{change, along}

-- Ψ(x,u) = (x ⊕ u) − u: the difference is taken modulo 2^32 and then cut to k bits
unfoldable pub psi : ℕ → ℕ → ℕ → ℕ
psi k x u = sub_mod (2 ^ 32) (xor x u) u % 2 ^ k

-- Ψ of x and each of the shares us
unfoldable pub psis : ℕ → ℕ → List ℕ → List ℕ
psis k x us = along (λ j u. psi k x u) us

-- Z, of s shares that are x and then us: Ψ of x and each of us, and the first of them is also combined by exclusive or with x if s is odd
unfoldable pub z_of : ℕ → ℕ → ℕ → List ℕ → List ℕ
z_of k s x us = pick (eqb (s % 2) 1) (change (λ z. xor z x) 0 (psis k x us)) (psis k x us)

-- the results of U and Z, added share by share; their last shares are kept apart, U's before Z's
unfoldable pub added : ℕ → List ℕ → List ℕ → List ℕ
added M us zs =
    let last : ℕ = length us - 1 in
    along (λ j u. add_mod M u (get_or zs j 0)) (take last us) ++ (get_or us last 0 ∷ get_or zs last 0 ∷ [])
