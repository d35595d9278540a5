-- Demand 3, of the verdict.
use mathlib.Core.Path.{◌≡◌, refl, sym, ap, subst, ◌∙◌}
use mathlib.Core.Logic.{◌≢◌}
use mathlib.Core.Bool.{true, false}
use mathlib.Core.List.{List, [], ◌∷◌}
use Prim.Native.Nat.{ℕ, ◌-◌, ◌%◌, ◌^◌, ◌<◌}
use native.Mathlib.Nat.{mod-lt}
use native.Mathlib.Omega.{arith}
use lib.Count.{count_leading_zeros}
use lib.ListN.{length, get_or}
use lib.IntN.{ℤ}
use Rattle.numbers.specs.Bits.{bits_of}
use Rattle.numbers.specs.Modulo.{q}
use Rattle.numbers.specs.Lists.{Words, sum}
use Rattle.numbers.proofs.WordsLaws.{words_none, words_cons}
use Rattle.params.specs.declared.Bounds.{Bounds}
use Rattle.params.specs.Laws.{KindLaws}
use Rattle.params.specs.Sets.{kind_of}
use Rattle.tape.specs.Tape.{ran, start}
use Rattle.draws.specs.Plan.{places}
use Rattle.draws.specs.Anew.{anew, ExactlyOne}
use Rattle.draws.proofs.Outcomes.{Gives, feed, Fits, merged}
use Rattle.draws.proofs.PlanLaws.{Reads, reads_fit, reads_run, planned_ran, planned_parts}
use Rattle.draws.proofs.AnewLaws.{anew-run, anew_reads, anew_is, exactly_as, one_anew}
use Rattle.hits.proofs.HitLaws.{set_first_below}
use Rattle.shares.specs.Sharing.{arithmetic}
use Rattle.shares.proofs.SharingLaws.{Shares}
use Rattle.gate.specs.Told.{Told, Outcome}
use Rattle.gate.specs.Judge.{judge_call, judges}
use Rattle.sizes.specs.Verdict.{verdict_of, judged, verdict, verdict_plan}
use Rattle.sizes.specs.Plain.{accepted, opened_of}
use Rattle.sizes.specs.LastScalar.{last_scalar_marks}
use Rattle.sizes.proofs.PlainLaws.{accepted_not_zero}
use Rattle.sizes.proofs.VerdictGives.{Opens, verdict_feed, rejected_opens, accepted_opens}
use Rattle.sizes.proofs.ScalarLaws.{earlier, plan_last, is_last, one_last_scalar}
use Rattle.demands.specs.Gadgets.{verdict_gadget}
use Rattle.demands.specs.Call.{Valid}
use Rattle.demands.specs.Verdict.{meant, Within, verdict_claim}
use Rattle.demands.specs.Scalars.{OneScalar, BothZero, VerdictSettings}
use Rattle.demands.proofs.Answers.{laws_of}
use Rattle.demands.proofs.Runs.{tells_success, Succeeded, succeeded, success}
use Rattle.demands.proofs.VerdictSteps.{of_value, verdict_planned, on_judged}

-- a draw below q − 1 has as many bits as one below q
same_bits : bits_of (q - 1) ≡ bits_of q
unfolding bits_of count_leading_zeros
same_bits = refl

opened_below : (bounds : Bounds) (n : ℕ) (z : ℤ) (rs : List ℕ) → opened_of bounds n z rs < q
unfolding opened_of
opened_below bounds n z rs = mod-lt _ (omega arith)

module _ (set kind : ℕ) (shares tape : List ℕ) (x : Succeeded (judge_call (verdict_gadget set kind) shares) tape) (second : List ℕ) (v : Valid (verdict_claim set kind second))
    (same : length second ≡ length shares) (within : Within (kind_of set kind) shares) (within-second : Within (kind_of set kind) second) where
  abbrev bounds : Bounds
  bounds = kind_of set kind

  abbrev n : ℕ
  n = length shares

  laws : KindLaws bounds
  laws = laws_of kind v.range.0

  first_valid : Valid (verdict_claim set kind shares)
  first_valid = (on_judged set kind shares).valid x.passes

  few : 0 < n
  few = omega (arith, first_valid.count.0)

  second_shares : Shares (arithmetic q) n (sum second % q) second
  second_shares = of_value (subst (λ (m : ℕ). Words m q second) same v.below)

  gives : Gives Opens (verdict bounds second) (verdict_plan bounds n)
  gives = subst (λ (m : ℕ). Gives Opens (verdict bounds second) (verdict_plan bounds m)) same (verdict_planned set kind second v)

  -- what the second opens, by its draws
  second_fed : (rs : List ℕ) → Fits (verdict_plan bounds n) rs → feed (verdict bounds second) rs ≡ judged (opened_of bounds n (meant second) rs)
  second_fed rs f = verdict_feed laws few (sum second % q) second second_shares within-second rs f

  module _ {rs : List ℕ} (y : Reads tape (verdict_plan bounds n) start rs (places (verdict_plan bounds n) tape start) x.place) (fed : feed (verdict bounds shares) rs ≡ x.outcome) where
    -- what the first opened
    c : ℕ
    c = opened_of bounds n (meant shares) rs

    first_told : judges (verdict_gadget set kind) shares tape ≡ success (judged c) x.place
    unfolding judges c
    first_told =
        x.told_so
        ∙ ap (λ (o : Outcome). success o x.place) (sym fed ∙ verdict_feed laws few (sum shares % q) shares (of_value first_valid.below) within rs (reads_fit y))

    -- both rejected
    both_zero : accepted bounds (meant shares) ≡ false → accepted bounds (meant second) ≡ false → BothZero set kind shares tape second
    unfolding judges verdict_gadget verdict_of c
    both_zero e f =
        let none : c ≡ 0 = rejected_opens laws few (sum shares % q) shares (of_value first_valid.below) within rs (reads_fit y) e in
        let none-second : opened_of bounds n (meant second) rs ≡ 0 = rejected_opens laws few (sum second % q) second second_shares within-second rs (reads_fit y) f in
        let second-told : judges (verdict_gadget set kind) second tape ≡ success (judged (opened_of bounds n (meant second) rs)) x.place =
        tells_success (judge_call (verdict_gadget set kind) second) tape ((on_judged set kind second).passes v)
        (planned_ran gives.plan tape start (reads_run y) ∙ ap (λ (o : Outcome). ran o x.place) (second_fed rs (reads_fit y))) in
        record {
          same = second-told ∙ ap (λ (m : ℕ). success (judged m) x.place) (none-second ∙ sym none) ∙ sym first_told;
          zero = ap (λ (t : Told). t.others) (first_told ∙ ap (λ (m : ℕ). success (judged m) x.place) none);
        }

    -- the tape with the last scalar's draw set anew to the one number of us
    tape_with : List ℕ → List ℕ
    tape_with us = anew (last_scalar_marks bounds n) (q - 1) (verdict_plan bounds n) tape start us

    -- what the second tells on the tape with the last scalar's draw set anew to us
    told_on : (us : List ℕ) → Words 1 (q - 1) us →
        judges (verdict_gadget set kind) second (tape_with us) ≡ success (judged (opened_of bounds n (meant second) (merged (last_scalar_marks bounds n) rs us))) x.place
    unfolding judges verdict_gadget tape_with
    told_on us w =
        let read = anew_reads (last_scalar_marks bounds n) 1 (q - 1) y (is_last bounds n few) us (omega arith) (omega arith) w in
        tells_success (judge_call (verdict_gadget set kind) second) (tape_with us) ((on_judged set kind second).passes v)
        (anew-run (last_scalar_marks bounds n) 1 (q - 1) y (is_last bounds n few) us (omega arith) (omega arith) w (verdict bounds second) gives.plan
        ∙ ap (λ (o : Outcome). ran o x.place) (second_fed (merged (last_scalar_marks bounds n) rs us) (reads_fit read)))

    abbrev Same : List ℕ → Type 0
    Same us = judges (verdict_gadget set kind) second (tape_with us) ≡ judges (verdict_gadget set kind) shares tape

    -- exactly one draw leads to what the first opened
    one : accepted bounds (meant shares) ≡ true → accepted bounds (meant second) ≡ true → ExactlyOne 1 (q - 1) Same
    unfolding c
    one e f =
        let opened_in : Told → ℕ = λ t. get_or t.others 1 0 in
        let some : c ≢ 0 = accepted_opens laws few (sum shares % q) shares (of_value first_valid.below) within rs (reads_fit y) e in
        exactly_as Same
        (λ us w g. told_on us w ∙ ap (λ (m : ℕ). success (judged m) x.place) g ∙ sym first_told)
        (λ us w g. ap opened_in (sym (told_on us w) ∙ g ∙ first_told))
        (one_last_scalar bounds n few rs (reads_fit y) (meant second) c (accepted_not_zero laws (meant second) within-second f) (opened_below bounds n (meant shares) rs) some)

    -- a number with which the second gives the same count of words is below q − 1
    below : (us : List ℕ) → Words 1 (2 ^ bits_of (q - 1)) us → Same us → Words 1 (q - 1) us
    unfolding judges verdict_gadget tape_with last_scalar_marks
    below [] w g = absurd (omega (arith, w.size))
    below (u ∷ []) w g =
        let succeeds : (judges (verdict_gadget set kind) second (tape_with (u ∷ []))).number ≡ 0 = ap (λ (t : Told). t.number) (g ∙ first_told) in
        let z = succeeded (judge_call (verdict_gadget set kind) second) (tape_with (u ∷ [])) succeeds in
        let (os, r, _) = planned_parts gives.plan (tape_with (u ∷ [])) start z.ran_to in
        let used : z.place.at ≡ x.place.at = ap (λ (t : Told). t.used) (sym z.told_so ∙ g ∙ x.told_so) in
        words_cons
        (set_first_below (earlier bounds n few) (q - 1) (n - 1) q (omega arith) same_bits
        (subst (λ (l : List ℕ). Reads tape l start rs (places (verdict_plan bounds n) tape start) x.place) (plan_last bounds n few) y) (omega arith)
        (anew_is (last_scalar_marks bounds n) 1 (q - 1) y (is_last bounds n few) (u ∷ []) w)
        (subst (λ (l : List ℕ). Reads (tape_with (u ∷ [])) l start os (places (verdict_plan bounds n) (tape_with (u ∷ [])) start) z.place) (plan_last bounds n few) r) used)
        words_none
    below (u ∷ m ∷ us) w g = absurd (omega (arith, w.size))

    one_scalar : accepted bounds (meant shares) ≡ true → accepted bounds (meant second) ≡ true → OneScalar set kind shares tape second
    unfolding tape_with
    one_scalar e f = one_anew (last_scalar_marks bounds n) 1 (q - 1) y (is_last bounds n few) (omega arith) (omega arith) below (one e f)

pub verdict_settings : (set kind : ℕ) (shares tape : List ℕ) → VerdictSettings set kind shares tape
unfolding judges verdict_gadget
verdict_settings set kind shares tape e second v same within within-second =
    let x = succeeded (judge_call (verdict_gadget set kind) shares) tape e in
    let (rs, y, fed) = planned_parts (verdict_planned set kind shares ((on_judged set kind shares).valid x.passes)).plan tape start x.ran_to in
    record {
      both-accepted = one_scalar set kind shares tape x second v same within within-second y fed;
      both_rejected = both_zero set kind shares tape x second v same within within-second y fed;
    }
