-- How a parity joins A in the code: each word is written once, with its sign and what is added. Nothing here has to be believed: no public promise
-- speaks of it, and the law `join_is` says that it is the same as the step of `Halving`.
use Rattle.std.specs.Prelude.{ℕ, eqb}
use Rattle.numbers.specs.Tests.{pick}
use Rattle.numbers.specs.Modulo.{add_mod, neg_mod}

-- x, or its negation where p = 1
abbrev pub signed : ℕ → ℕ → ℕ → ℕ
signed M p x = pick (eqb p 1) (neg_mod M x) x

-- where a parity p joins, the word that takes the place of x at i: x with its sign, at the first place with p added
abbrev pub joined : ℕ → ℕ → ℕ → ℕ → ℕ
joined M p i x = pick (eqb i 0) (add_mod M (signed M p x) p) (signed M p x)
