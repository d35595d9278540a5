-- What the verdict opens of shares of a number within the reach: the product of its two sides and of the scalars; so it accepts exactly where the
-- size is below the bound. Over any n and any bounds that have their laws, whatever the draws.
use mathlib.Core.Path.{◌≡◌, refl, sym, ap, ap₂, subst, ◌∙◌}
use mathlib.Core.Logic.{◌≢◌, inl}
use mathlib.Core.Bool.{Bool, true, false}
use mathlib.Core.List.{List}
use Prim.Native.Nat.{ℕ, ◌*◌, ◌%◌, ◌≤◌, ◌<◌}
use native.Mathlib.Nat.{mod-lt}
use native.Mathlib.Omega.{arith}
use lib.ListN.{length, drop}
use lib.IntN.{ℤ, nat_abs, neg_ℤ}
use borrow.Author.Tests.{eq-eqb, ne_eqb}
use Rattle.numbers.specs.Tests.{pick}
use Rattle.numbers.specs.Modulo.{q}
use Rattle.numbers.specs.Lists.{Words, sum}
use Rattle.numbers.specs.Centred.{centred, residue}
use Rattle.numbers.proofs.Cong.{Cong, cong_mod, cong_mul, cong_refl}
use Rattle.numbers.proofs.CentredLaws.{residue-less, residue-negated, residue-centred}
use Rattle.numbers.proofs.PrimeLaws.{q_prime, zero_product, no_zero}
use Rattle.params.specs.declared.Bounds.{Bounds}
use Rattle.params.specs.Laws.{KindLaws}
use Rattle.draws.specs.Draws.{Draws, done, bind}
use Rattle.draws.proofs.Outcomes.{Gives, feed, Fits}
use Rattle.draws.proofs.PlanLaws.{gives_bind, gives_map, gives_as, always_feed, feed_bind, feed_map, FitBoth}
use Rattle.draws.proofs.RunLaws.{bind_assoc}
use Rattle.shares.specs.Sharing.{arithmetic, value, negated}
use Rattle.shares.proofs.SharingLaws.{Shares, value_below}
use Rattle.shares.proofs.NegatedLaws.{negated-value}
use Rattle.shares.proofs.RefreshLaws.{refresh_keeps}
use Rattle.first.specs.First.{take_from_first}
use Rattle.first.proofs.FirstLaws.{taken_first}
use Rattle.halves.specs.Shift.{shift_plan}
use Rattle.halves.proofs.FloorLaws.{shift_floor}
use Rattle.gate.specs.Told.{Outcome}
use Rattle.sizes.specs.Widening.{wide, widened, widen}
use Rattle.sizes.proofs.WideningSteps.{wide_two}
use Rattle.sizes.proofs.WideningGives.{widen_gives}
use Rattle.sizes.proofs.ProductGives.{product_gives}
use Rattle.sizes.specs.ZeroTest.{zero_test, scales_plan}
use Rattle.sizes.specs.Sides.{side, sides_product, sides_plan}
use Rattle.sizes.specs.Verdict.{tested, verdict_of, judged, verdict, front_plan, verdict_plan}
use Rattle.sizes.specs.Scalars.{scalars_of}
use Rattle.sizes.specs.Plain.{accepted, side_of, left_of, right_of, opened_of}
use Rattle.sizes.proofs.SidesSteps.{bound-wide}
use Rattle.sizes.proofs.PlainLaws.{rejected_zero, accepted_not_zero}
use Rattle.sizes.proofs.ZeroLaws.{zero_test_gives, zero_test_feed, scalars_not_zero}
use Rattle.sizes.proofs.PartLaws.{verdict_parts, drop_front}

-- an outcome in which a number below q was opened, and the verdict that goes with it
pub record Opens (o : Outcome) : Type 0 where
  pub number : ℕ
  pub below : number < q
  pub is : o ≡ judged number

module _ {bounds : Bounds} (h : KindLaws bounds) {n : ℕ} (few : 0 < n) where
  some : 0 < wide bounds
  some = omega (arith, wide_two h)

  -- a side of widened shares recombines to the side of any number z that has their value for its residue: left to that of z, right to that of −z
  pub side_gives : (z : ℤ) (ws : List ℕ) → Shares (widened bounds) n (residue (wide bounds) z) ws → Gives (Shares (arithmetic q) n (side_of bounds z)) (side bounds ws) (shift_plan q bounds.rho n)
  unfolding side side_of
  side_gives z ws a =
      rw (residue-less (wide bounds) some z bounds.a)
      (shift_floor q bounds.rho n _ (take_from_first (widened bounds) bounds.a ws) (omega arith) few (taken_first (widened bounds) bounds.a some (bound-wide h) few a))

  pub sides_give : (z : ℤ) (ws : List ℕ) → Shares (widened bounds) n (residue (wide bounds) z) ws → Gives (Shares (arithmetic q) n (left_of bounds z * right_of bounds z % q)) (sides_product bounds ws) (sides_plan bounds n)
  unfolding sides_product sides_plan left_of right_of
  sides_give z ws a =
      gives_bind _ _ (side_gives z ws a) (λ left l.
      gives_bind _ _ (side_gives (neg_ℤ z) (negated (wide bounds) ws) (rw (residue-negated (wide bounds) some z) (negated-value (wide bounds) some a))) (λ right r.
      gives_bind _ _ (refresh_keeps (arithmetic q) (omega arith) (side_of bounds z) left few l) (λ fresh f. product_gives (omega arith) fresh right f r)))

  -- what stands before the zero test, of shares of x: within the reach, the product of the sides of the number that x means
  record Front (x : ℕ) (ps : List ℕ) : Type 0 where
    words : Words n q ps
    product : nat_abs (centred q x) ≤ bounds.b → value (arithmetic q) ps ≡ left_of bounds (centred q x) * right_of bounds (centred q x) % q

  front : List ℕ → Draws (List ℕ)
  front xs = bind (widen bounds xs) (sides_product bounds)

  front_gives : (x : ℕ) (xs : List ℕ) → Shares (arithmetic q) n x xs → Gives (Front x) (front xs) (front_plan bounds n)
  unfolding front front_plan
  front_gives x xs a =
      gives_bind (sides_product bounds) (sides_plan bounds n) (widen_gives h n x xs few a) (λ ws w.
      let y : ℕ = value (widened bounds) ws in
      let z : ℤ = centred (wide bounds) y in
      let s : Shares (widened bounds) n y ws = record { words = w.words; is = refl } in
      let is : y ≡ residue (wide bounds) z = sym (residue-centred (wide bounds) some y (value_below (widened bounds) some s)) in
      gives_as (λ ps p. record { words = p.words; product = λ i. p.is ∙ ap (λ (u : ℤ). left_of bounds u * right_of bounds u % q) (w.kept i) })
      (sides_give z ws (record { words = w.words; is = is })))

  -- the whole, grouped so
  verdict_is : (xs : List ℕ) → verdict bounds xs ≡ bind (front xs) (λ ps. bind (zero_test q ps) (λ ts. done (judged (value (arithmetic q) ts))))
  unfolding verdict tested front
  verdict_is xs =
      ap (λ d. bind d (λ ts. done (judged (value (arithmetic q) ts)))) (sym (bind_assoc (widen bounds xs) (sides_product bounds) (zero_test q)))
      ∙ bind_assoc (bind (widen bounds xs) (sides_product bounds)) (zero_test q) _

  -- the verdict makes the planned draws
  pub verdict_gives : (x : ℕ) (xs : List ℕ) → Shares (arithmetic q) n x xs → Gives Opens (verdict bounds xs) (verdict_plan bounds n)
  unfolding verdict_plan
  verdict_gives x xs a =
      rw (verdict_is xs)
      (gives_bind _ (scales_plan q n n) (front_gives x xs a) (λ ps f.
      gives_map Opens (λ ts. judged (value (arithmetic q) ts)) (zero_test_gives (omega arith) few ps f.words)
      (λ ts w. record { number = sum ts % q; below = mod-lt (sum ts) (omega arith); is = refl })))

  -- the draws of a call: those before the zero test, and its own
  module _ (x : ℕ) (xs : List ℕ) (a : Shares (arithmetic q) n x xs) (within : nat_abs (centred q x) ≤ bounds.b) (rs : List ℕ) (f : Fits (verdict_plan bounds n) rs) where
    abbrev z : ℤ
    z = centred q x

    parts : FitBoth (front_plan bounds n) (scales_plan q n n) rs
    parts = verdict_parts bounds n rs f

    zero_draws : drop (length (front_plan bounds n)) rs ≡ parts.snd
    zero_draws = ap (drop (length (front_plan bounds n))) parts.all ∙ drop_front parts.snd parts.fit_fst

    -- the verdict opens what its draws make of the number
    pub verdict_feed : feed (verdict bounds xs) rs ≡ judged (opened_of bounds n z rs)
    unfolding opened_of
    verdict_feed =
        let g = front_gives x xs a in
        let ps : List ℕ = feed (front xs) parts.fst in
        let p : Front x ps = always_feed g.plan g.always parts.fst parts.fit_fst in
        let v : ℕ = left_of bounds z * right_of bounds z in
        let t = zero_test_feed (omega arith) few (v % q) ps parts.snd (record { words = p.words; is = p.product within }) parts.fit_snd in
        let s : ℕ = scalars_of n parts.snd n in
        let same : Cong q (v % q * s) (v * s) = cong_mul cong_mod cong_refl in
        ap₂ feed (verdict_is xs) parts.all
        ∙ feed_bind g.plan (λ ps. bind (zero_test q ps) (λ ts. done (judged (value (arithmetic q) ts)))) parts.fst parts.snd parts.fit_fst
        ∙ feed_map (zero_test q ps) (λ ts. judged (value (arithmetic q) ts)) parts.snd
        ∙ ap judged (t.is ∙ same.eq ∙ ap (λ (l : List ℕ). v * scalars_of n l n % q) (sym zero_draws))

    -- so zero is opened exactly where the size is not below the bound
    pub rejected_opens : accepted bounds z ≡ false → opened_of bounds n z rs ≡ 0
    unfolding opened_of
    rejected_opens e = zero_product q (left_of bounds z * right_of bounds z) _ (inl (rejected_zero h z within e))

    pub accepted_opens : accepted bounds z ≡ true → opened_of bounds n z rs ≢ 0
    unfolding opened_of
    accepted_opens e =
        no_zero q_prime (left_of bounds z * right_of bounds z) _ (accepted_not_zero h z within e)
        (subst (λ (l : List ℕ). scalars_of n l n % q ≢ 0) (sym zero_draws) (scalars_not_zero q_prime n n few parts.snd parts.fit_snd))

    pub verdict_right : verdict_of (opened_of bounds n z rs) ≡ pick (accepted bounds z) 1 0
    unfolding verdict_of
    verdict_right = go (accepted bounds z) refl
      where
        go : (b : Bool) → accepted bounds z ≡ b → verdict_of (opened_of bounds n z rs) ≡ pick (accepted bounds z) 1 0
        go true e = rw (e, ne_eqb (opened_of bounds n z rs) 0 (accepted_opens e))
        go false e = rw (e, eq-eqb (opened_of bounds n z rs) 0 (rejected_opens e))
