-- The last scalar set anew: the verdict's other draws stay, and exactly one last scalar leads from a number that is accepted to any number that is not
-- zero.
use mathlib.Core.Path.{◌≡◌, refl, sym, ap, subst, ◌∙◌}
use mathlib.Core.Logic.{◌≢◌}
use mathlib.Core.Bool.{Bool, true}
use mathlib.Core.List.{List, [], ◌∷◌, ◌++◌, append_assoc}
use Prim.Native.Nat.{ℕ, suc, ◌+◌, ◌-◌, ◌*◌, ◌%◌, ◌<◌}
use native.Mathlib.Omega.{arith}
use lib.ListN.{length, drop, replicate}
use lib.IntN.{ℤ}
use Rattle.numbers.specs.Modulo.{q}
use Rattle.numbers.specs.Lists.{Words}
use Rattle.numbers.specs.Prime.{OneFactor}
use Rattle.numbers.proofs.WordsLaws.{words_none, words_head, words_cons}
use Rattle.numbers.proofs.PrimeLaws.{q_prime, no_zero, one_factor}
use Rattle.params.specs.declared.Bounds.{Bounds}
use Rattle.draws.specs.Anew.{marked, marks_after, ExactlyOne}
use Rattle.draws.proofs.Outcomes.{Fits, merged, Marks}
use Rattle.draws.proofs.PlanLaws.{fits_both, fits_split, FitBoth}
use Rattle.draws.proofs.MarksLaws.{marked-after, merged_after}
use Rattle.shares.specs.Refresh.{refresh_plan}
use Rattle.sizes.specs.ZeroTest.{scale_plan, scales_plan}
use Rattle.sizes.specs.Verdict.{front_plan, verdict_plan}
use Rattle.sizes.specs.Scalars.{scalars_of}
use Rattle.sizes.specs.Plain.{left_of, right_of, opened_of}
use Rattle.sizes.specs.LastScalar.{last_scalar_marks}
use Rattle.sizes.proofs.ZeroLaws.{scales_last, Scales, scales_parts, before_length, scalars_last, scalars_not_zero}
use Rattle.sizes.proofs.PartLaws.{drop_front}

-- of any draws before the zero test, and of any number that its scalars multiply
module _ (front : List ℕ) (n : ℕ) (few : 0 < n) where
  -- the draws before the last scalar's
  abbrev pub before_last : List ℕ
  before_last = front ++ scales_plan q n (n - 1)

  abbrev pub last_marks : List Bool
  last_marks = marks_after before_last (true ∷ [])

  -- then that one, and those of the last refresh
  whole_last : front ++ scales_plan q n n ≡ before_last ++ ((q - 1) ∷ replicate (n - 1) q)
  unfolding scale_plan refresh_plan
  whole_last =
      let one : suc (n - 1) ≡ n = omega arith in
      ap (λ (m : ℕ). front ++ scales_plan q n m) (sym one) ∙ ap (front ++◌) (scales_last q n (n - 1)) ∙ sym (append_assoc front (scales_plan q n (n - 1)) (scale_plan q n))

  -- one draw below q − 1 is marked
  pub last_marked : Marks last_marks (front ++ scales_plan q n n) 1 (q - 1)
  unfolding marked
  last_marked = ap (marked last_marks) whole_last ∙ marked-after before_last before_last ((q - 1) ∷ replicate (n - 1) q) (true ∷ []) refl

  module _ (rs : List ℕ) (f : Fits (front ++ scales_plan q n n) rs) where
    parts : FitBoth front (scales_plan q n n) rs
    parts = fits_split front f

    last : Scales q n (n - 1) parts.snd
    last = let one : n ≡ suc (n - 1) = omega arith in scales_parts q n (n - 1) parts.snd (subst (λ (m : ℕ). Fits (scales_plan q n m) parts.snd) one parts.fit_snd)

    -- the scalars before the last, multiplied
    s : ℕ
    s = scalars_of n last.before (n - 1)

    s_not_zero : s % q ≢ 0
    unfolding s
    s_not_zero = scalars_not_zero q_prime n (n - 1) few last.before last.fit_before

    -- the draws with u for the last scalar's
    with_last : ℕ → List ℕ
    with_last u = parts.fst ++ (last.before ++ (u ∷ last.fresh))

    merged_last : (u : ℕ) → merged last_marks rs (u ∷ []) ≡ with_last u
    unfolding merged with_last
    merged_last u =
        ap (λ (l : List ℕ). merged last_marks l (u ∷ [])) (parts.all ∙ ap (parts.fst ++◌) last.all ∙ sym (append_assoc parts.fst last.before (last.scalar ∷ last.fresh)))
        ∙ merged_after (true ∷ []) (last.scalar ∷ last.fresh) (u ∷ []) (fits_both parts.fit_fst last.fit_before)
        ∙ append_assoc parts.fst last.before (u ∷ last.fresh)

    -- what is multiplied goes by the last scalar
    opens : (sides u : ℕ) → sides * scalars_of n (drop (length front) (merged last_marks rs (u ∷ []))) n % q ≡ sides * s * (u + 1) % q
    unfolding with_last s
    opens sides u =
        let one : suc (n - 1) ≡ n = omega arith in
        let zero_test : drop (length front) (with_last u) ≡ last.before ++ (u ∷ last.fresh) = drop_front (last.before ++ (u ∷ last.fresh)) parts.fit_fst in
        let scalars : scalars_of n (last.before ++ (u ∷ last.fresh)) n ≡ s * (u + 1) =
        ap (scalars_of n (last.before ++ (u ∷ last.fresh))) (sym one) ∙ scalars_last few (n - 1) u last.before last.fresh (before_length few last) in
        ap (λ (l : List ℕ). sides * scalars_of n (drop (length front) l) n % q) (merged_last u)
        ∙ ap (λ (l : List ℕ). sides * scalars_of n l n % q) zero_test
        ∙ rw scalars (ap (λ (y : ℕ). y % q) (omega arith))

    -- from a number that is not zero exactly one last scalar leads to c
    module _ (sides c : ℕ) (not_zero : sides % q ≢ 0) (below : c < q) (some : c ≢ 0) where
      v : ℕ
      v = sides * s

      g : OneFactor q v c
      unfolding v
      g = one_factor q_prime (sides * s) c (no_zero q_prime sides s not_zero s_not_zero) below some

      alone : (us : List ℕ) → Words 1 (q - 1) us → sides * scalars_of n (drop (length front) (merged last_marks rs us)) n % q ≡ c → us ≡ (g.factor - 1) ∷ []
      unfolding v
      alone [] w e = absurd (omega (arith, w.size))
      alone (u ∷ []) w e =
          let same : u + 1 ≡ g.factor = g.only (u + 1) (omega (arith, words_head w)) (sym (opens sides u) ∙ e) in
          ap (λ (y : ℕ). y ∷ []) (omega arith)
      alone (u ∷ x ∷ us) w e = absurd (omega (arith, w.size))

      pub one_scalar : ExactlyOne 1 (q - 1) (λ us. sides * scalars_of n (drop (length front) (merged last_marks rs us)) n % q ≡ c)
      unfolding v
      one_scalar =
          let back : g.factor - 1 + 1 ≡ g.factor = omega (arith, g.least) in
          record {
            setting = (g.factor - 1) ∷ [];
            words = words_cons (omega (arith, g.least, g.most)) words_none;
            works = opens sides (g.factor - 1) ∙ ap (λ (y : ℕ). sides * s * y % q) back ∙ g.leads;
            only = alone;
          }

-- so of the verdict by the bounds of a kind, whose scalars multiply the product of both sides
module _ (bounds : Bounds) (n : ℕ) (few : 0 < n) where
  abbrev pub earlier : List ℕ
  earlier = before_last (front_plan bounds n) n few

  pub plan_last : verdict_plan bounds n ≡ earlier ++ ((q - 1) ∷ replicate (n - 1) q)
  unfolding verdict_plan
  plan_last = whole_last (front_plan bounds n) n few

  pub is_last : Marks (last_scalar_marks bounds n) (verdict_plan bounds n) 1 (q - 1)
  unfolding last_scalar_marks verdict_plan
  is_last = last_marked (front_plan bounds n) n few

  module _ (rs : List ℕ) (f : Fits (verdict_plan bounds n) rs) (z : ℤ) (c : ℕ) (sides : (left_of bounds z * right_of bounds z) % q ≢ 0) (below : c < q) (some : c ≢ 0) where
    pub one_last_scalar : ExactlyOne 1 (q - 1) (λ us. opened_of bounds n z (merged (last_scalar_marks bounds n) rs us) ≡ c)
    unfolding last_scalar_marks opened_of verdict_plan
    one_last_scalar = one_scalar (front_plan bounds n) n few rs f (left_of bounds z * right_of bounds z) c sides below some
