-- Laws of the numbers of bits L and α: each is the smallest number of bits that holds every number below M, or below n.
use mathlib.Core.Path.{◌≡◌}
use Prim.Native.Nat.{ℕ, zero, suc, ◌+◌, ◌-◌, ◌*◌, ◌^◌, ◌≤◌, ◌<◌}
use native.Mathlib.Nat.{le_antisymm, pow-suc}
use native.Mathlib.Omega.{arith}
use native.Mathlib.Decide.{dec_le, ℕ_discrete}
use lib.Count.{count_leading_zeros, leading_length}
use lib.Pow.{pow_mono}
use borrow.Author.Tests.{le-leb, lt-leb}
use Rattle.numbers.specs.Bits.{bits_of, power_from, alpha}

-- a is the smallest number with 2^a ≥ n
pub record Smallest (n a : ℕ) : Type 0 where
  pub holds : n ≤ 2 ^ a
  pub least : (b : ℕ) → n ≤ 2 ^ b → a ≤ b

pub smallest_only : {n a b : ℕ} → Smallest n a → Smallest n b → a ≡ b
smallest_only {a = a} {b = b} s t = le_antisymm (s.least b t.holds) (t.least a s.holds)

pub bits_most : (M : ℕ) → bits_of M ≤ 32
unfolding bits_of
bits_most M = omega arith

pub bits_smallest : (M : ℕ) → 0 < M → M ≤ 2 ^ 32 → Smallest M (bits_of M)
unfolding bits_of
bits_smallest M h l =
    let (b, e, u, t) = leading_length 32 (M - 1) (omega arith) in
    let w : 32 - count_leading_zeros 32 (M - 1) ≡ b = omega arith in
    rw w (record { holds = omega arith; least = λ c p. go b t c p (dec_le b c) })
  where
    go : (b : ℕ) → 2 ^ b ≤ 2 * (M - 1) + 1 → (c : ℕ) → M ≤ 2 ^ c → Dec (b ≤ c) → b ≤ c
    go b t c p (yes y) = y
    go b t c p (no n) = let z : 2 ^ suc c ≤ 2 ^ b = pow_mono {i = suc c} {j = b} (omega arith) in absurd (omega (arith, pow-suc 2 c))

under_power : (n : ℕ) → n ≤ 2 ^ n
under_power zero = omega arith
under_power (suc n) = rw pow-suc (omega (arith, under_power n, pow_mono {i = 0} {j = n} (omega arith)))

-- from a on, where no smaller number will do
from_smallest : (n a k : ℕ) → ((b : ℕ) → n ≤ 2 ^ b → a ≤ b) → n ≤ 2 ^ (a + k) → Smallest n (power_from n a k)
unfolding power_from
from_smallest n a zero f h = let e : a + 0 ≡ a = omega arith in record { holds = rw e at h; least = f }
from_smallest n a (suc k) f h = let e : a + suc k ≡ suc a + k = omega arith in go (dec_le n (2 ^ a)) (λ g. from_smallest n (suc a) k g (rw e at h))
  where
    go : Dec (n ≤ 2 ^ a) → (((b : ℕ) → n ≤ 2 ^ b → suc a ≤ b) → Smallest n (power_from n (suc a) k)) → Smallest n (power_from n a (suc k))
    go (yes y) ih = rw (le-leb n (2 ^ a) y) (record { holds = y; least = f })
    go (no x) ih = rw (lt-leb n (2 ^ a) (omega arith)) (ih (λ b p. next b p))
      where
        next : (b : ℕ) → n ≤ 2 ^ b → suc a ≤ b
        next b p = elim (ℕ_discrete a b) [ yes e ↦ absurd (x (rw e p)) | no m ↦ omega (arith, f b p) ]

pub alpha_smallest : (n : ℕ) → Smallest n (alpha n)
unfolding alpha
alpha_smallest n = let e : 0 + n ≡ n = omega arith in from_smallest n 0 n (λ b p. omega arith) (rw e (under_power n))

-- so the leading zeros of n - 1 give α
pub alpha_bits : (n : ℕ) → 0 < n → n ≤ 2 ^ 32 → alpha n ≡ bits_of n
alpha_bits n h l = smallest_only (alpha_smallest n) (bits_smallest n h l)
