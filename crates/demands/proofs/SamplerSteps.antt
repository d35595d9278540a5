-- What each sampler has to show of its steps; demands 1 and 2 follow from this alone.
use mathlib.Core.Path.{◌≡◌, refl, sym, ap, subst₂, ◌∙◌}
use mathlib.Core.List.{List, []}
use Prim.Native.Nat.{ℕ, ◌*◌, ◌≤◌}
use native.Mathlib.Omega.{arith}
use lib.ListN.{length}
use Rattle.tape.specs.declared.Cursor.{Cursor}
use Rattle.tape.specs.Tape.{ran, start}
use Rattle.draws.specs.Draws.{done, run}
use Rattle.draws.proofs.Outcomes.{Plan}
use Rattle.draws.proofs.PlanLaws.{plan-map}
use Rattle.draws.proofs.RunLaws.{bind_parts}
use Rattle.checks.specs.Checks.{first_failing}
use Rattle.gate.specs.Told.{Outcome, silent, check_number}
use Rattle.gate.specs.Gadget.{silent_steps}
use Rattle.gate.specs.Sampler.{Sampler, sampler_call, samples}
use Rattle.checks.proofs.CheckLaws.{all_checked, number_most}
use Rattle.demands.specs.SamplerClaim.{SamplerClaim, on_stated}
use Rattle.demands.proofs.Runs.{never}
use Rattle.demands.proofs.Answers.{Answers, Tested, first_count, first_length, first_parameter, first_later}

pub record SamplerSteps (c : SamplerClaim) : Type 0 where
  -- the check of the parameters says what is claimed
  pub range : Tested c.sampler.in_range c.InRange
  -- and so do the room that is asked for, and what a short tape leaves
  pub count : c.sampler.coefficients ≡ c.coefficients
  pub short : (out : List ℕ) → c.sampler.short out ≡ c.short out
  -- the steps make the claimed draws, and fill the output slice with what is claimed
  pub planned : c.InRange → (n : ℕ) → 2 ≤ n → n ≤ 8 → (out : List ℕ) → length out ≡ c.coefficients * n → Plan (c.sampler.steps n out) (c.draws n)
  pub fills : c.InRange → (n : ℕ) → 2 ≤ n → n ≤ 8 → (tape out : List ℕ) → length out ≡ c.coefficients * n → {after : List ℕ} {p : Cursor} →
      run (c.sampler.steps n out) tape start ≡ ran after p → c.Fills n tape p after

-- so a call is as claimed
pub on_stated_lem : {c : SamplerClaim} → SamplerSteps c → (n : ℕ) (out : List ℕ) → Answers (on_stated c n out)
unfolding check_number silent_steps first_failing run
on_stated_lem {c} s n out =
    let words : ℕ = c.sampler.coefficients * n in
    let asked : words ≡ c.coefficients * n = ap (◌* n) s.count in
    record {
      bad_count = first_count s.range n (length out) words [];
      bad_length = λ h r. first_length s.range n (length out) words [] h (λ e. r (e ∙ asked));
      bad_parameter = λ h r. first_parameter s.range n (length out) words [] h (r ∙ sym asked);
      bad_share = λ h r i b. absurd (b tt);
      most = number_most n (length out) words c.sampler.in_range [] 4 (omega arith) (omega arith);
      has_fields = refl;
      out = refl;
      short = s.short out;
      passes = λ v. sym (first_later s.range n (length out) words [] v.count (v.room ∙ sym asked) v.range);
      valid = λ e.
          let p = all_checked n (length out) words c.sampler.in_range [] e in
          record { count = (p.least, p.most); room = p.fits ∙ asked; range = s.range.in_range p.range; below = tt };
      planned = λ v. plan-map silent (s.planned v.range n v.count.0 v.count.1 out v.room);
      right = λ v tape {o} {p} e.
          let (xs, t, x, y) = bind_parts (c.sampler.steps n out) (λ ys. done (silent ys)) tape start e in
          let f : silent xs ≡ o = cc in
          let g : t ≡ p = cc in
          subst₂ (λ (r : Outcome) (u : Cursor). c.Fills n tape u r.shares × (r.others ≡ [])) f g
          (s.fills v.range n v.count.0 v.count.1 tape out v.room x, refl);
      fields = λ tape p o r. ap length r.1;
    }

-- the first three checks have no other number
pub no_share : (g : Sampler) (n : ℕ) (tape out : List ℕ) → ¬ ((samples g n tape out).number ≡ 4)
unfolding samples check_number first_failing
no_share g n tape out =
    never (sampler_call g n out) tape 4 (λ e. omega arith) (λ e. omega arith)
    (λ e. omega (arith, e, number_most n (length out) (g.coefficients * n) g.in_range [] 3 (omega arith) (omega arith)))
