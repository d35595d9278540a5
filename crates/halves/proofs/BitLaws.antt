-- Laws of a bit put onto words that have those before it.
use mathlib.Core.Path.{◌≡◌, sym, ap}
use mathlib.Core.List.{List}
use Prim.Native.Nat.{ℕ, suc, ◌+◌, ◌*◌, ◌%◌, ◌^◌, ◌≤◌, ◌<◌}
use native.Mathlib.Nat.{pow-suc, mul-le-mul_left}
use native.Mathlib.Omega.{arith}
use lib.Pow.{pow_mono}
use lib.ListN.{get_or, take}
use lib.Seq.{get_or-take}
use Rattle.numbers.specs.Lists.{Words}
use Rattle.numbers.proofs.AlongLaws.{take-along, words_along}
use Rattle.halves.specs.Halving.{parity}
use Rattle.halves.specs.ToBoolean.{with_bit}

-- bit b put onto a word below 2^b
bit_below : (b x y : ℕ) → x < 2 ^ b → x + 2 ^ b * parity y < 2 ^ suc b
bit_below b x y h = let l : 2 ^ b * (y % 2) ≤ 2 ^ b * 1 = mul-le-mul_left (2 ^ b) (omega arith) in rw pow-suc (omega arith)

-- as the code computes it, in 32 bits
pub bit_fits : {b place x : ℕ} (y : ℕ) → b ≤ 30 → place ≡ 2 ^ b → x < 2 ^ b → x + place * (y % 2) < 2 ^ 32
bit_fits {b} {place} {x} y h e l = rw e (let z : 2 ^ suc b ≤ 2 ^ 31 = pow_mono {i = suc b} {j = 31} (omega arith) in omega (arith, bit_below b x y l))

pub with_bit_words : {n : ℕ} (b : ℕ) (xs : List ℕ) {ys : List ℕ} → Words n (2 ^ b) ys → Words n (2 ^ suc b) (with_bit b xs ys)
unfolding with_bit
with_bit_words b xs w = words_along _ w (λ i y l h. bit_below b y (get_or xs i 0) h)

pub with_bit-take : (b n : ℕ) (xs ys : List ℕ) → take n (with_bit b xs ys) ≡ with_bit b (take n xs) (take n ys)
unfolding with_bit
with_bit-take b n xs ys = take-along _ _ n ys (λ i y l. ap (λ (x : ℕ). y + 2 ^ b * parity x) (sym (get_or-take n xs i 0 l)))
