-- Widening keeps the signed value of a residue within the reach, and gives words below 2^ρ·q in any case: over any n and any bounds that have their
-- laws, whatever the draws.
use mathlib.Core.Path.{◌≡◌, refl, sym, ap, subst, ◌∙◌}
use mathlib.Core.List.{List}
use Prim.Native.Nat.{ℕ, suc, ◌+◌, ◌-◌, ◌*◌, ◌/◌, ◌%◌, ◌^◌, ◌≤◌, ◌<◌}
use native.Mathlib.Nat.{mod-eq_of_lt, mul_comm, mul-one, mul-le-mul_right, div-le_of_le-mul}
use native.Mathlib.Decide.{dec_le}
use native.Mathlib.Omega.{arith}
use lib.Pow.{pow_pos, pow-add}
use lib.IntN.{pos, nat_abs, ◌-ℤ◌}
use Rattle.numbers.specs.Modulo.{q, add_mod}
use Rattle.numbers.specs.Bits.{alpha}
use Rattle.numbers.specs.Lists.{Words, sum}
use Rattle.numbers.specs.Centred.{centred}
use Rattle.numbers.proofs.BitsLaws.{alpha_smallest}
use Rattle.numbers.proofs.CentredLaws.{reach_most, reach_is, centred-sub}
use Rattle.params.specs.declared.Bounds.{Bounds}
use Rattle.params.specs.Laws.{KindLaws}
use Rattle.params.proofs.RoomLaws.{reach_below}
use Rattle.draws.specs.Draws.{Draws, done, bind}
use Rattle.draws.proofs.Outcomes.{Gives}
use Rattle.draws.proofs.PlanLaws.{gives_map}
use Rattle.draws.proofs.RunLaws.{bind_assoc}
use Rattle.shares.specs.Sharing.{arithmetic, value}
use Rattle.shares.proofs.SharingLaws.{Shares, value_below}
use Rattle.first.specs.First.{add_to_first, take_from_first}
use Rattle.first.proofs.FirstLaws.{added_first, taken_first, taken_words}
use Rattle.halves.specs.Carries.{carries, without}
use Rattle.halves.proofs.CarrySteps.{without_words}
use Rattle.halves.proofs.CarryLaws.{carries_give, switch_keeps}
use Rattle.sizes.specs.Widening.{wide, widened, widen_shift, widen, widen_plan}
use Rattle.sizes.proofs.WideningSteps.{wide_least, wide_two, reach_wide}

-- the floor of X·2^(α+1)/Q leaves room for d below 2^α, if X is at most Q/2
floor_room : (Q α d X : ℕ) → 0 < Q → d < 2 ^ α → 2 * X ≤ Q → X * 2 ^ (α + 1) / Q + d < 2 ^ (α + 1)
floor_room Q α d X some few h =
    let twice : 2 ^ (α + 1) ≡ 2 ^ α * 2 = pow-add 2 α 1 in
    let l : X * 2 ^ (α + 1) / Q ≤ 2 ^ α = div-le_of_le-mul Q (rw twice (omega (arith, mul-le-mul_right (2 ^ α) h))) in
    omega arith

-- what widening gives of shares of x
pub record Widened (bounds : Bounds) (n x : ℕ) (ys : List ℕ) : Type 0 where
  pub words : Words n (wide bounds) ys
  pub kept : nat_abs (centred q x) ≤ bounds.b → centred (wide bounds) (value (widened bounds) ys) ≡ centred q x

module _ {bounds : Bounds} (h : KindLaws bounds) (d x : ℕ) {xs : List ℕ} (a : Shares (arithmetic q) (suc d) x xs) where
  t : ℕ
  t = widen_shift (suc d)

  ys : List ℕ
  ys = add_to_first (arithmetic q) bounds.b xs

  -- b added
  offset : Shares (arithmetic q) (suc d) (add_mod q x bounds.b) ys
  unfolding ys
  offset = added_first (arithmetic q) bounds.b (omega arith) (reach_below h) (omega arith) a

  steps : Draws (List ℕ)
  steps = bind (carries (2 ^ bounds.rho) t (2 ^ t) q ys) (λ es. done (take_from_first (widened bounds) bounds.b (without (wide bounds) q es ys)))

  -- outside the reach: the words alone
  beyond : ¬ (nat_abs (centred q x) ≤ bounds.b) → Gives (Widened bounds (suc d) x) steps (widen_plan bounds (suc d))
  unfolding steps t widen_plan
  beyond out =
      gives_map (Widened bounds (suc d) x) (λ es. take_from_first (widened bounds) bounds.b (without (wide bounds) q es ys))
      (carries_give d (2 ^ bounds.rho) t (2 ^ t) q q 1 ys (pow_pos bounds.rho) (omega arith) (sym (mul-one (q * 2 ^ t))) offset.words).shares
      (λ es s. record {
        words = taken_words (widened bounds) bounds.b (omega (arith, wide_two h)) (reach_wide h) (without_words (wide bounds) q es (omega (arith, wide_two h)) offset.words);
        kept = λ i. absurd (out i);
      })

  -- within it: the value too
  module _ (i : nat_abs (centred q x) ≤ bounds.b) where
    X : ℕ
    X = add_mod q x bounds.b

    X_most : X ≤ 2 * bounds.b
    unfolding X
    X_most = reach_most q bounds.b x (value_below (arithmetic q) (omega arith) a) (omega (arith, h.quarter)) i

    X_is : pos X -ℤ pos bounds.b ≡ centred q x
    unfolding X
    X_is = reach_is q bounds.b x (value_below (arithmetic q) (omega arith) a) (omega (arith, h.quarter)) i

    X_small : X % wide bounds ≡ X
    X_small = mod-eq_of_lt (omega (arith, X_most, h.quarter, wide_least h))

    room : sum ys % q * 2 ^ t / q + d < 2 ^ t
    unfolding t X
    room = subst (λ (y : ℕ). y * 2 ^ t / q + d < 2 ^ t) (sym offset.is) (floor_room q (alpha (suc d)) d X (omega arith) (omega (arith, (alpha_smallest (suc d)).holds)) (omega (arith, X_most, h.quarter)))

    switched : Gives (Shares (widened bounds) (suc d) X) (bind (carries (2 ^ bounds.rho) t (2 ^ t) q ys) (λ es. done (without (wide bounds) q es ys))) (widen_plan bounds (suc d))
    unfolding widen_plan t X
    switched =
        subst (λ (y : ℕ). Gives (Shares (widened bounds) (suc d) y) (bind (carries (2 ^ bounds.rho) t (2 ^ t) q ys) (λ es. done (without (wide bounds) q es ys))) (widen_plan bounds (suc d)))
        (ap (λ (y : ℕ). y % wide bounds) offset.is ∙ X_small)
        (switch_keeps d (2 ^ bounds.rho) t (2 ^ t) q q (wide bounds) 1 ys (pow_pos bounds.rho) (omega arith) (omega (arith, wide_two h)) refl (mul_comm q (2 ^ bounds.rho) ∙ sym (mul-one (wide bounds))) room offset.words)

    within : Gives (Widened bounds (suc d) x) steps (widen_plan bounds (suc d))
    unfolding steps bind
    within =
        subst (λ p. Gives (Widened bounds (suc d) x) p (widen_plan bounds (suc d)))
        (bind_assoc (carries (2 ^ bounds.rho) t (2 ^ t) q ys) (λ es. done (without (wide bounds) q es ys)) (λ zs. done (take_from_first (widened bounds) bounds.b zs)))
        (gives_map (Widened bounds (suc d) x) (take_from_first (widened bounds) bounds.b) switched
        (λ zs s.
        let w = taken_first (widened bounds) bounds.b (omega (arith, wide_two h)) (reach_wide h) (omega arith) s in
        record {
          words = w.words;
          kept = λ j. ap (centred (wide bounds)) w.is ∙ centred-sub (wide bounds) X bounds.b (omega (arith, X_most, h.quarter, wide_least h)) (omega (arith, h.quarter, wide_least h)) ∙ X_is;
        }))

  either : Gives (Widened bounds (suc d) x) (widen bounds xs) (widen_plan bounds (suc d))
  unfolding widen steps t ys
  either = rw a.words.size (go (dec_le (nat_abs (centred q x)) bounds.b))
    where
      go : Dec (nat_abs (centred q x) ≤ bounds.b) → Gives (Widened bounds (suc d) x) steps (widen_plan bounds (suc d))
      go (yes i) = within i
      go (no out) = beyond out

-- widening makes the planned draws, and whatever they give, it keeps the value within the reach
pub widen_gives : {bounds : Bounds} → KindLaws bounds → (n x : ℕ) (xs : List ℕ) → 0 < n → Shares (arithmetic q) n x xs → Gives (Widened bounds n x) (widen bounds xs) (widen_plan bounds n)
widen_gives {bounds} h n x xs some a =
    let one : suc (n - 1) ≡ n = omega arith in
    subst (λ (m : ℕ). Gives (Widened bounds m x) (widen bounds xs) (widen_plan bounds m)) one (either h (n - 1) x (subst (λ (m : ℕ). Shares (arithmetic q) m x xs) (sym one) a))
