-- What q and the largest share count leave room for.
use mathlib.Core.Path.{◌≡◌}
use Prim.Native.Nat.{ℕ, zero, suc, ◌+◌, ◌-◌, ◌*◌, ◌^◌, ◌≤◌, ◌<◌}
use native.Mathlib.Nat.{mul-le-mul_left, mul-le-mul_right}
use native.Mathlib.Decide.{dec_lt}
use native.Mathlib.Omega.{arith}
use lib.Pow.{pow_mono}
use Rattle.numbers.specs.Modulo.{q}
use Rattle.numbers.specs.Bits.{alpha}
use Rattle.numbers.proofs.BitsLaws.{alpha_smallest}
use Rattle.params.specs.declared.Bounds.{Bounds}
use Rattle.params.specs.declared.Params.{Params}
use Rattle.params.specs.Laws.{KindLaws, Laws}

-- for at most eight shares α is at most 3, which leaves room for 2^α·q in a word
pub alpha_most : (n : ℕ) → n ≤ 8 → alpha n ≤ 3
alpha_most n h = (alpha_smallest n).least 3 h

pub q_room : (n : ℕ) → n ≤ 8 → 2 ^ alpha n * q < 2 ^ 32
q_room n h = let l : 2 ^ alpha n ≤ 2 ^ 3 = pow_mono (alpha_most n h) in omega arith

-- of two powers of two the smaller has the smaller exponent
power_below : (i j : ℕ) → 2 ^ i < 2 ^ j → i < j
power_below i j h = go (dec_lt i j)
  where
    go : Dec (i < j) → i < j
    go (yes l) = l
    go (no n) = let l : j ≤ i = omega arith in absurd (omega (arith, pow_mono l))

module _ {p : Params} (l : Laws p) where
  -- 4γ1 is at most q, so a mask is drawn with 1 to 21 bits
  pub mask_small : 4 * p.gamma1 ≤ q
  mask_small = omega (arith, l.reach1, l.laws1.quarter)

  pub mask_least : 1 ≤ p.mu
  mask_least = power_below 0 p.mu (omega (arith, l.mask, l.offset))

  pub mask_most : p.mu ≤ 21
  mask_most = let h = power_below p.mu 22 (omega (arith, l.mask, mask_small)) in omega arith

module _ {bounds : Bounds} (h : KindLaws bounds) where
  -- the widened modulus 2^ρ·q is a word, so ρ is at most 9
  pub rho_most : bounds.rho ≤ 9
  rho_most = let l = power_below bounds.rho 10 (omega (arith, h.word)) in omega arith

  pub wraps_least : 2 ≤ 2 ^ bounds.rho
  wraps_least = pow_mono {i = 1} h.least

  pub reach_below : bounds.b < q
  reach_below = omega (arith, h.quarter)

  pub bound_below : bounds.a < q
  bound_below = omega (arith, h.order, reach_below)

  -- a word has room for 2^(α+1+ρ)
  pub wraps_room : (n : ℕ) → n ≤ 8 → 2 ^ (alpha n + 1) * 2 ^ bounds.rho < 2 ^ 32
  wraps_room n most =
      let l : 2 ^ (alpha n + 1) ≤ 2 ^ 4 = pow_mono {j = 4} (omega (arith, alpha_most n most)) in
      omega (arith, mul-le-mul_right (2 ^ bounds.rho) l, h.word)

module _ {p : Params} (l : Laws p) where
  pub half_least : 0 < p.gamma2
  half_least = go p.gamma2 l.parts
    where
      go : (g : ℕ) → 2 * g * p.delta ≡ q - 1 → 0 < g
      go zero e = absurd (omega arith)
      go (suc g) e = omega arith

  -- γ2 and 2γ2·h are below q for h below δ
  pub half_below : p.gamma2 < q
  half_below = omega (arith, l.parts, mul-le-mul_left (2 * p.gamma2) l.parts_least)

  pub multiple_below : {h : ℕ} → h < p.delta → 2 * p.gamma2 * h < q
  multiple_below {h} b = let c : h ≤ p.delta = omega arith in omega (arith, l.parts, mul-le-mul_left (2 * p.gamma2) c)

  -- a word has room for δ·2^(23+α)
  pub parts_room : (n : ℕ) → n ≤ 8 → 2 ^ (23 + alpha n) * p.delta < 2 ^ 32
  parts_room n most =
      let e : 2 ^ (23 + alpha n) ≤ 2 ^ 26 = pow_mono {j = 26} (omega (arith, alpha_most n most)) in
      omega (arith, mul-le-mul_right p.delta e, l.parts_most)
