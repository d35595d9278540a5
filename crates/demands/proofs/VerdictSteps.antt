-- What a call of the verdict answers, from which demands 1 and 2 follow; and that number 2 cannot arise.
use mathlib.Core.Path.{◌≡◌, refl, sym, ap, subst, ◌∙◌}
use mathlib.Core.Bool.{Bool, true, false}
use mathlib.Core.List.{List, [], ◌∷◌}
use Prim.Native.Nat.{ℕ, ◌%◌, ◌≤◌}
use native.Mathlib.Omega.{arith}
use lib.ListN.{length, get_or}
use Rattle.numbers.specs.Tests.{pick}
use Rattle.numbers.specs.Modulo.{q}
use Rattle.numbers.specs.Lists.{Words, sum}
use Rattle.params.specs.declared.Bounds.{Bounds}
use Rattle.params.specs.Sets.{kind_of}
use Rattle.tape.specs.declared.Cursor.{Cursor}
use Rattle.tape.specs.Tape.{ran, start}
use Rattle.draws.specs.Draws.{run}
use Rattle.draws.proofs.Outcomes.{Gives}
use Rattle.draws.proofs.PlanLaws.{planned_parts, reads_run, reads_fit, always_run}
use Rattle.shares.specs.Sharing.{arithmetic}
use Rattle.shares.proofs.SharingLaws.{Shares}
use Rattle.checks.specs.Checks.{inside, all_below, first_failing, checks_of, checks, leave_out}
use Rattle.gate.specs.Told.{Outcome, check_number}
use Rattle.gate.specs.Judge.{judge_checks, judge_call, judges}
use Rattle.checks.proofs.CheckLaws.{number_most, below_most, below_words, words_below, below_fails, below_passes, all_passed}
use Rattle.gate.proofs.GadgetLaws.{judge_checks_lem}
use Rattle.sizes.specs.Verdict.{verdict_of, verdict, verdict_plan}
use Rattle.sizes.specs.Plain.{opened_of}
use Rattle.sizes.proofs.VerdictGives as Value
use Rattle.demands.specs.Gadgets.{kind_range, verdict_gadget}
use Rattle.demands.specs.Call.{Valid}
use Rattle.demands.specs.Verdict.{meant, Within, Judgement, verdict_claim}
use Rattle.demands.proofs.Answers.{Answers, kind_tested, laws_of, not_so, first_count, first_parameter, first_later}
use Rattle.demands.proofs.Runs.{never}

-- shares below q are shares of their value
pub of_value : {n : ℕ} {shares : List ℕ} → Words n q shares → Shares (arithmetic q) n (sum shares % q) shares
of_value w = record { words = w; is = refl }

module _ (set kind : ℕ) (shares : List ℕ) where
  n : ℕ
  n = length shares

  more : List (ℕ × Bool)
  more = (4, all_below q shares) ∷ []

  -- the checks are those of a gadget on shares with an output slice of the right length
  same_checks : first_failing (checks shares (length shares) (kind_range set kind) q) ≡ check_number (judge_call (verdict_gadget set kind) shares)
  unfolding check_number verdict_gadget
  same_checks = judge_checks_lem (verdict_gadget set kind) shares

  pub verdict_planned : Valid (verdict_claim set kind shares) → Gives Value.Opens (verdict (kind_of set kind) shares) (verdict_plan (kind_of set kind) (length shares))
  verdict_planned v = Value.verdict_gives (laws_of kind v.range.0) (omega (arith, v.count.0)) (sum shares % q) shares (of_value v.below)

  -- a call that came to its end: what its draws were, and what they made of the number
  judgement : Valid (verdict_claim set kind shares) → (tape : List ℕ) {o : Outcome} {p : Cursor} → run (verdict (kind_of set kind) shares) tape start ≡ ran o p →
      Judgement (kind_of set kind) shares tape p o
  judgement v tape {o} e =
      let bounds : Bounds = kind_of set kind in
      let laws = laws_of kind v.range.0 in
      let g = verdict_planned v in
      let j = always_run g.always tape start e in
      let (rs, reads, fed) = planned_parts g.plan tape start e in
      let number : Within bounds shares → j.number ≡ opened_of bounds (length shares) (meant shares) rs = λ i. ap opened_in (sym j.is ∙ sym fed ∙ Value.verdict_feed laws (omega (arith, v.count.0)) (sum shares % q) shares (of_value v.below) i rs (reads_fit reads)) in
      record {
        opens = j.number;
        below = j.below;
        tells = ap (λ (y : Outcome). y.others) j.is;
        no_shares = ap (λ (y : Outcome). y.shares) j.is;
        draws = rs;
        drawn = reads_run reads;
        product = number;
        plain = λ i. ap verdict_of (number i) ∙ Value.verdict_right laws (omega (arith, v.count.0)) (sum shares % q) shares (of_value v.below) i rs (reads_fit reads);
      }
    where
      opened_in : Outcome → ℕ
      opened_in y = get_or y.others 1 0

  pub on_judged : Answers (verdict_claim set kind shares)
  unfolding verdict_gadget n more checks
  on_judged =
      let t = kind_tested set kind in
      record {
        bad_count = λ h. first_count t n n n more h ∙ same_checks;
        bad_length = λ h r. absurd (r tt);
        bad_parameter = λ h r i. first_parameter t n n n more h refl i ∙ same_checks;
        bad_share = λ h r i b. below_fails q shares (not_so _ (λ e. b (below_words q shares e))) ∙ first_later t n n n more h refl i ∙ same_checks;
        most = subst (λ (m : ℕ). m ≤ 4) same_checks (number_most n n n (kind_range set kind) more 4 (omega arith) (below_most q shares));
        has_fields = refl;
        out = refl;
        short = refl;
        passes = λ v. sym (below_passes q shares (words_below v.below) ∙ first_later t n n n more v.count refl v.range ∙ same_checks);
        valid = λ e.
            let p = all_passed shares (length shares) (kind_range set kind) q (same_checks ∙ e) in
            record { count = (p.ready.least, p.ready.most); room = tt; range = t.in_range p.range; below = p.ready.below };
        planned = λ v. (verdict_planned v).plan;
        right = λ v tape e. judgement v tape e;
        fields = λ tape p o r. ap length r.tells;
      }

  -- the checks have no number 2
  pub no_room : (tape : List ℕ) → ¬ ((judges (verdict_gadget set kind) shares tape).number ≡ 2)
  unfolding judges check_number first_failing checks checks_of leave_out judge_checks verdict_gadget
  no_room tape =
      never (judge_call (verdict_gadget set kind) shares) tape 2 (λ e. omega arith) (λ e. omega arith)
      (not_two (inside 2 8 (length shares)) (kind_range set kind) (all_below q shares))
    where
      not_two : (a b c : Bool) → ¬ (◌≡◌ {A = ℕ} (pick a (pick b (pick c 0 4) 3) 1) 2)
      not_two true true true f = omega arith
      not_two true true false f = omega arith
      not_two true false c f = omega arith
      not_two false b c f = omega arith
