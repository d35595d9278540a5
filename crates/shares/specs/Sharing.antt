-- The two kinds of sharing (document 01, "What the library covers").
use Rattle.std.specs.Prelude.{List, ℕ, ◌%◌, ◌^◌}
use Rattle.numbers.specs.Modulo.{add_mod, sub_mod, neg_mod, xor}
use Rattle.numbers.specs.Lists.{sum, xor_all, change, along}

-- an arithmetic sharing modulo M, or a Boolean one of width k
pub data Sharing : Type 0 where
  arithmetic : (M : ℕ) → Sharing
  boolean : (k : ℕ) → Sharing

-- it holds words below M, or below 2^k
abbrev pub bound : Sharing → ℕ
bound (arithmetic M) = M
bound (boolean k) = 2 ^ k

-- and recombines to their sum mod M, or by exclusive or
abbrev pub value : Sharing → List ℕ → ℕ
value (arithmetic M) xs = sum xs % M
value (boolean k) xs = xor_all xs

-- how a number is added to a share, and taken from it
abbrev pub plus : Sharing → ℕ → ℕ → ℕ
plus (arithmetic M) = add_mod M
plus (boolean k) = xor

abbrev pub minus : Sharing → ℕ → ℕ → ℕ
minus (arithmetic M) = sub_mod M
minus (boolean k) = xor

-- all shares of an arithmetic sharing negated
unfoldable pub negated : ℕ → List ℕ → List ℕ
negated M xs = along (λ i x. neg_mod M x) xs

-- r taken from one share and added to another
unfoldable pub move : Sharing → (from to : ℕ) → ℕ → List ℕ → List ℕ
move s from to r xs = change (λ x. minus s x r) from (change (λ x. plus s x r) to xs)
