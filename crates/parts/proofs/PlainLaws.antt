-- FIPS 204's Decompose, and what the gadget makes of a value: the same, of every residue, over any γ2 and δ with 2γ2·δ = q − 1.
use mathlib.Core.Bool.{true, false}
use mathlib.Core.Path.{◌≡◌, sym, ap, subst, ◌∙◌}
use Prim.Native.Nat.{ℕ, zero, suc, ◌+◌, ◌-◌, ◌*◌, ◌/◌, ◌%◌, ◌≤◌, ◌<◌}
use native.Mathlib.Nat.{mod-lt, mod-eq_of_lt, mod-eq-sub-mod, div-add-mod', div-eq_of_lt, div-eq_of_lt-le, mul-div_cancel_left, mul-le-mul_left, mul-le-mul_right}
use native.Mathlib.Decide.{dec_le, dec_lt}
use native.Mathlib.Omega.{arith}
use lib.Dec.{le→leb, lt→ltb}
use lib.IntN.{ℤ, pos, negsuc, neg_ℤ, nat_abs, ◌-ℤ◌}
use lib.Signed.{◌≤ℤ◌, ◌<ℤ◌, le_z_yes, lt_z_yes}
use borrow.Author.Tests.{le-leb, lt-leb, eq-eqb, ne_eqb}
use Rattle.numbers.specs.Modulo.{q, sub_mod}
use Rattle.numbers.specs.Centred.{centred}
use Rattle.numbers.proofs.Cong.{cong_eq}
use Rattle.numbers.proofs.GroupLaws.{sub_only}
use Rattle.numbers.proofs.CentredLaws.{less-over, less_under, less_one, centred-sub, centred_top}
use Rattle.parts.specs.Plain.{remainder, multiple, exception, high_of, low_of}
use Rattle.parts.specs.Remainder.{Remainder}

-- r is 2γ2·k and a number from −γ2 + 1 to γ2, which is the remainder; and r less that is the multiple
record Near (g r k : ℕ) : Type 0 where
  over : 2 * g * k < r + g
  under : r ≤ 2 * g * k + g
  rest : remainder g r ≡ pos r -ℤ pos (2 * g * k)
  least : neg_ℤ (pos g) <ℤ remainder g r
  most : remainder g r ≤ℤ pos g
  exact : pos r -ℤ remainder g r ≡ pos (multiple g r)
  whole : multiple g r ≡ 2 * g * k

-- −γ2 is below all but −γ2 and what is below that
below_minus : (g m : ℕ) → m + 1 < g → neg_ℤ (pos g) <ℤ negsuc m
below_minus zero m h = absurd (omega arith)
below_minus (suc g) m h = lt_z_yes (lt→ltb m g (omega arith))

below_plus : (g i : ℕ) → 0 < g → neg_ℤ (pos g) <ℤ pos i
below_plus zero i h = absurd (omega arith)
below_plus (suc g) i h = lt_z_yes tt

-- of r = 2γ2·j + i with i below 2γ2, that is j or j + 1
module _ (g r j : ℕ) (small : r % (2 * g) < 2 * g) (split : r ≡ 2 * g * j + r % (2 * g)) where
  half : 2 * g / 2 ≡ g
  half = omega arith

  near_below : r % (2 * g) ≤ g → Near g r j
  unfolding remainder multiple centred
  near_below h =
      let i : ℕ = r % (2 * g) in
      let e : remainder g r ≡ pos i = rw (half, le-leb i g h) in
      let back : r - 2 * g * j ≡ i = omega arith in
      let difference : pos r -ℤ remainder g r ≡ pos (r - i) = ap (λ (z : ℤ). pos r -ℤ z) e ∙ less-over r i (omega arith) in
      record {
        over = omega arith;
        under = omega arith;
        rest = e ∙ sym (less-over r (2 * g * j) (omega arith) ∙ ap pos back);
        least = rw e (below_plus g i (omega arith));
        most = rw e (le_z_yes (le→leb i g h));
        exact = difference ∙ ap pos (sym (ap nat_abs difference));
        whole = ap nat_abs difference ∙ omega arith;
      }

  near_above : g < r % (2 * g) → Near g r (j + 1)
  unfolding remainder multiple centred
  near_above h =
      let i : ℕ = r % (2 * g) in
      let e : remainder g r ≡ negsuc (2 * g - suc i) = rw (half, lt-leb i g h) (less_under i (2 * g) small) in
      let back : 2 * g * (j + 1) - suc r ≡ 2 * g - suc i = omega arith in
      let difference : pos r -ℤ remainder g r ≡ pos (r + suc (2 * g - suc i)) = ap (λ (z : ℤ). pos r -ℤ z) e in
      record {
        over = omega arith;
        under = omega arith;
        rest = e ∙ sym (less_under r (2 * g * (j + 1)) (omega arith) ∙ ap negsuc back);
        least = rw e (below_minus g (2 * g - suc i) (omega arith));
        most = rw e (le_z_yes tt);
        exact = difference ∙ ap pos (sym (ap nat_abs difference));
        whole = ap nat_abs difference ∙ omega arith;
      }

-- every r is near such a multiple
record Rounded (g r : ℕ) : Type 0 where
  k : ℕ
  near : Near g r k

rounded : (g r : ℕ) → 0 < g → Rounded g r
rounded g r least = go (dec_le (r % (2 * g)) g)
  where
    small : r % (2 * g) < 2 * g
    small = mod-lt r (omega arith)

    split : r ≡ 2 * g * (r / (2 * g)) + r % (2 * g)
    split = omega (arith, div-add-mod' r (2 * g))

    go : Dec (r % (2 * g) ≤ g) → Rounded g r
    go (yes h) = record { k = r / (2 * g); near = near_below g r (r / (2 * g)) small split h }
    go (no n) = record { k = r / (2 * g) + 1; near = near_above g r (r / (2 * g)) small split (omega arith) }

-- so the remainder is FIPS 204's
pub remainder_is : (g r : ℕ) → 0 < g → Remainder g r
remainder_is g r least =
    let f = rounded g r least in
    record { least = f.near.least; most = f.near.most; exact = f.near.exact; times = f.k; whole = f.near.whole }

module _ (g δ r : ℕ) (least : 0 < g) (some : 0 < δ) (parts : 2 * g * δ ≡ q - 1) (below : r < q) where
  -- what the gadget opens, and what it leaves, are FIPS 204's
  record Agrees : Type 0 where
    high : (r + g) % q * δ / q ≡ high_of g r
    low : centred q (sub_mod q r (2 * g * high_of g r)) ≡ low_of g r

  half_most : 2 * g ≤ q - 1
  half_most = omega (arith, mul-le-mul_left (2 * g) some)

  -- no k is above δ
  most : (k : ℕ) → Near g r k → k ≤ δ
  most k a = go (dec_le k δ)
    where
      go : Dec (k ≤ δ) → k ≤ δ
      go (yes h) = h
      go (no n) = let l : δ + 1 ≤ k = omega arith in absurd (omega (arith, a.over, mul-le-mul_left (2 * g) l))

  -- the floor of X·δ/q, of X from 2γ2·k + 1 to 2γ2·(k + 1)
  floor_at : (k m : ℕ) → 1 ≤ m → m ≤ 2 * g → k < δ → (2 * g * k + m) * δ / q ≡ k
  floor_at k m one two h =
      let all : 2 * g * δ * k ≡ (q - 1) * k = ap (λ (y : ℕ). y * k) parts in
      div-eq_of_lt-le q (omega (arith, mul-le-mul_right δ one)) (omega (arith, mul-le-mul_right δ two))

  -- below δ, k is the high part
  usual : (k : ℕ) → Near g r k → k < δ → Agrees
  unfolding high_of low_of exception
  usual k a h =
      let up : k + 1 ≤ δ = omega arith in
      let room : 2 * g * k + 2 * g ≤ q - 1 = omega (arith, mul-le-mul_left (2 * g) up) in
      let other : exception g r ≡ false = ne_eqb (multiple g r) (q - 1) (λ e. omega (arith, a.whole)) in
      let high : high_of g r ≡ k = rw (other, a.whole) (mul-div_cancel_left k (omega arith)) in
      let low : low_of g r ≡ pos r -ℤ pos (2 * g * k) = rw other a.rest in
      let sum : r + g ≡ 2 * g * k + (r + g - 2 * g * k) = omega (arith, a.over) in
      record {
        high =
            ap (λ (x : ℕ). x * δ / q) (mod-eq_of_lt (omega (arith, a.under)) ∙ sum)
            ∙ floor_at k (r + g - 2 * g * k) (omega (arith, a.over)) (omega (arith, a.under)) h ∙ sym high;
        low = ap (λ (j : ℕ). centred q (sub_mod q r (2 * g * j))) high ∙ centred-sub q r (2 * g * k) (omega (arith, a.under, half_most)) (omega (arith, a.over, half_most)) ∙ sym low;
      }

  -- at δ, it is 0, and r0 is less by 1
  top : Near g r δ → Agrees
  unfolding high_of low_of exception
  top a =
      let end : exception g r ≡ true = eq-eqb (multiple g r) (q - 1) (a.whole ∙ parts) in
      let high : high_of g r ≡ 0 = rw end in
      let low : low_of g r ≡ (pos r -ℤ pos (q - 1)) -ℤ pos 1 = rw end (ap (λ (z : ℤ). z -ℤ pos 1) (a.rest ∙ ap (λ (x : ℕ). pos r -ℤ pos x) parts)) in
      let past : (r + g) % q ≡ r + g - q = mod-eq-sub-mod {n = r + g} {m = q} (omega (arith, a.over)) ∙ mod-eq_of_lt (omega (arith, half_most)) in
      let few : r + g - q ≤ g = omega arith in
      let none : 2 * g * 0 ≡ 0 = omega arith in
      record {
        high = ap (λ (x : ℕ). x * δ / q) past ∙ div-eq_of_lt (omega (arith, mul-le-mul_right δ few)) ∙ sym high;
        low =
            ap (λ (j : ℕ). centred q (sub_mod q r (2 * g * j))) high ∙ ap (λ (x : ℕ). centred q (sub_mod q r x)) none
            ∙ ap (centred q) (sym (sub_only 0 below (cong_eq (omega arith)))) ∙ centred_top q r (omega (arith, a.over, half_most)) ∙ less_one r q below ∙ sym low;
      }

  agrees : Agrees
  agrees = let f = rounded g r least in go f (dec_lt f.k δ)
    where
      go : (f : Rounded g r) → Dec (f.k < δ) → Agrees
      go f (yes h) = usual f.k f.near h
      go f (no n) = let e : f.k ≡ δ = omega (arith, most f.k f.near) in top (subst (Near g r) e f.near)

  -- the floor of the gadget is r1
  pub high_plain : (r + g) % q * δ / q ≡ high_of g r
  high_plain = agrees.high

  -- and r less 2γ2·r1 means r0
  pub low_plain : centred q (sub_mod q r (2 * g * high_of g r)) ≡ low_of g r
  low_plain = agrees.low
