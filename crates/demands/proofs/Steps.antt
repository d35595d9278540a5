-- What each gadget that turns shares into shares has to show of its steps; the three demands follow from this alone.
use mathlib.Core.Path.{◌≡◌, refl, sym, ap, subst, ◌∙◌}
use mathlib.Core.Bool.{Bool}
use mathlib.Core.List.{List, [], ◌∷◌}
use Prim.Native.Nat.{ℕ, ◌≤◌}
use native.Mathlib.Omega.{arith}
use lib.ListN.{length}
use Rattle.numbers.specs.Lists.{Words}
use Rattle.tape.specs.Tape.{start}
use Rattle.draws.proofs.Outcomes.{Gives}
use Rattle.draws.proofs.PlanLaws.{gives_bind, gives_map, always_run}
use Rattle.shares.specs.Sharing.{Sharing, bound, value}
use Rattle.shares.specs.Refresh.{refresh_plan}
use Rattle.shares.proofs.RefreshLaws.{refresh_keeps}
use Rattle.checks.specs.Checks.{all_below, checks}
use Rattle.gate.specs.Told.{check_number}
use Rattle.gate.specs.Gadget.{closed}
use Rattle.checks.proofs.CheckLaws.{number_most, below_most, below_words, words_below, below_fails, below_passes, all_passed}
use Rattle.demands.specs.Call.{Valid}
use Rattle.demands.specs.Claim.{Claim, Claimed, plan, on_shares}
use Rattle.demands.proofs.Answers.{Answers, Range, not_so, first_count, first_length, first_parameter, first_later}

pub record Steps (c : Claim) : Type 0 where
  -- the check of the parameters says what is claimed, and the output's modulus, or 2 to its width, is a word's
  pub range : Range c.gadget.in_range c.InRange (bound c.gadget.output)
  -- as many numbers are opened as a refusal has zeros
  pub has_fields : c.gadget.fields ≡ c.fields
  pub opens_fields : (x : ℕ) → length (c.opens x) ≡ c.fields
  -- the steps make the claimed draws, and whatever these give, the outcome is as claimed
  pub give : c.InRange → (n : ℕ) → 2 ≤ n → n ≤ 8 → (xs : List ℕ) → Words n (bound c.gadget.input) xs →
      Gives (Claimed c n xs) (c.gadget.steps xs) (c.draws n)

-- then so do the steps with the closing refresh
pub closed_give : {c : Claim} → Steps c → c.InRange → (n : ℕ) → 2 ≤ n → n ≤ 8 → (xs : List ℕ) → Words n (bound c.gadget.input) xs →
    Gives (Claimed c n xs) (closed c.gadget.output (c.gadget.steps xs)) (plan c n)
unfolding closed plan
closed_give {c} s r n least most xs w =
    gives_bind _ (refresh_plan out n) (s.give r n least most xs w)
    (λ o d. gives_map (Claimed c n xs) (λ zs. record { others = o.others; shares = zs })
    (refresh_keeps out (s.range.positive r) (value out o.shares) o.shares (omega arith) (record { words = d.words; is = refl }))
    (λ zs k. record { opened = d.opened; words = k.words; recombined = subst (c.Plain (value c.gadget.input xs)) (sym k.is) d.recombined }))
  where
    out : Sharing
    out = c.gadget.output

-- so a call on shares is as claimed
pub on_shares_lem : {c : Claim} → Steps c → (shares out : List ℕ) → Answers (on_shares c shares out)
unfolding check_number checks
on_shares_lem {c} s shares out =
    let n : ℕ = length shares in
    let M : ℕ = bound c.gadget.input in
    let more : List (ℕ × Bool) = (4, all_below M shares) ∷ [] in
    let gives : Valid (on_shares c shares out) → Gives (Claimed c n shares) (closed c.gadget.output (c.gadget.steps shares)) (plan c n) =
    λ v. closed_give s v.range n v.count.0 v.count.1 shares v.below in
    record {
      bad_count = first_count s.range.tested n (length out) n more;
      bad_length = first_length s.range.tested n (length out) n more;
      bad_parameter = first_parameter s.range.tested n (length out) n more;
      bad_share = λ h r i b. below_fails M shares (not_so _ (λ e. b (below_words M shares e))) ∙ first_later s.range.tested n (length out) n more h r i;
      most = number_most n (length out) n c.gadget.in_range more 4 (omega arith) (below_most M shares);
      has_fields = s.has_fields;
      out = refl;
      short = refl;
      passes = λ v. sym (below_passes M shares (words_below v.below) ∙ first_later s.range.tested n (length out) n more v.count v.room v.range);
      valid = λ e.
          let p = all_passed shares (length out) c.gadget.in_range M e in
          record { count = (p.ready.least, p.ready.most); room = p.ready.fits; range = s.range.tested.in_range p.range; below = p.ready.below };
      planned = λ v. (gives v).plan;
      right = λ v tape e. always_run (gives v).always tape start e;
      fields = λ tape p o r. ap length r.opened ∙ s.opens_fields (value c.gadget.input shares);
    }
