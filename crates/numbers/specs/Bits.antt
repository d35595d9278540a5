-- The two numbers of bits that document 01 names: L, of a draw ("The tape"), and α ("What the library covers").
use Rattle.std.specs.Prelude.{ℕ, zero, suc, ◌-◌, ◌^◌, leb}
use Rattle.std.specs.Int.Count.{count_leading_zeros}
use Rattle.numbers.specs.Tests.{pick}

-- L, the bits of a draw below M: 32 less the leading zeros of M - 1
unfoldable pub bits_of : ℕ → ℕ
bits_of M = 32 - count_leading_zeros 32 (M - 1)

-- the first number from a on, of k that are tried, whose power of two is n or more
unfoldable pub power_from : ℕ → ℕ → ℕ → ℕ
power_from n a zero = a
power_from n a (suc k) = pick (leb n (2 ^ a)) a (power_from n (suc a) k)

-- α, the smallest number with 2^α ≥ n
unfoldable pub alpha : ℕ → ℕ
alpha n = power_from n 0 n
