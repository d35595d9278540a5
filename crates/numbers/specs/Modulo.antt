-- Sums, differences and negation modulo M, exclusive or, and q (document 01, "What the library covers").
use Rattle.std.specs.Prelude.{ℕ, ◌+◌, ◌-◌, ◌%◌}
use Rattle.std.specs.Int.Bits.{bit_xor}

abbrev pub q : ℕ
q = 8380417

unfoldable pub add_mod : ℕ → ℕ → ℕ → ℕ
add_mod M a b = (a + b) % M

unfoldable pub sub_mod : ℕ → ℕ → ℕ → ℕ
sub_mod M a b = (a + (M - b % M)) % M

unfoldable pub neg_mod : ℕ → ℕ → ℕ
neg_mod M a = sub_mod M 0 a

unfoldable pub xor : ℕ → ℕ → ℕ
xor a b = bit_xor a b
