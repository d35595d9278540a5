-- Demand 1, of every call.
use mathlib.Core.Path.{◌≡◌, refl, sym, ap, ap₂, ◌∙◌}
use mathlib.Core.List.{List}
use Prim.Native.Nat.{ℕ}
use native.Mathlib.Omega.{arith}
use Rattle.tape.specs.Tape.{start}
use Rattle.draws.proofs.PlanLaws.{planned_ended}
use Rattle.gate.specs.Told.{Told, refusal, check_number, told}
use Rattle.gate.proofs.GadgetLaws.{by_check}
use Rattle.demands.specs.Call.{CallClaim}
use Rattle.demands.specs.Refusals.{Refused, Refusals}
use Rattle.demands.proofs.Answers.{Answers}
use Rattle.demands.proofs.Runs.{tells_short, Ending, succeeds, stops, refuses, ending}

module _ {c : CallClaim} (s : Answers c) (tape : List ℕ) where
  -- a check that fails answers, with the slice unchanged
  answers : (k : ℕ) → k ≡ check_number c.call → ¬ (k ≡ 0) → Refused c tape k c.out
  answers k e n = sym (by_check c.call tape e n refl) ∙ ap₂ (λ (f : ℕ) (o : List ℕ). refusal f k o) s.has_fields s.out

  -- and so does the end of the tape
  stopped : told c.call tape ≡ refusal c.call.fields 5 c.call.short → Refused c tape 5 c.short
  stopped e = e ∙ ap₂ (λ (f : ℕ) (o : List ℕ). refusal f 5 o) s.has_fields s.short

  pub refusals : Refusals c tape
  unfolding refusal
  refusals =
      record {
        bad_count = λ n. answers 1 (s.bad_count n) (λ z. omega arith);
        bad_length = λ h n. answers 2 (s.bad_length h n) (λ z. omega arith);
        bad_parameter = λ h r n. answers 3 (s.bad_parameter h r n) (λ z. omega arith);
        bad_share = λ h r i n. answers 4 (s.bad_share h r i n) (λ z. omega arith);
        short_tape = λ v e. stopped (tells_short c.call tape (s.passes v) (planned_ended (s.planned v) tape start e));
        or_short = λ e. short e (ending c.call tape);
        or_succeeds = λ n m. kept n m (ending c.call tape);
      }
    where
      short : (told c.call tape).number ≡ 5 → Ending c.call tape → Refused c tape 5 c.short
      short e (succeeds x) = absurd (let z : 0 ≡ 5 = sym (ap (λ (t : Told). t.number) x.told_so) ∙ e in omega arith)
      short e (stops f) = stopped f
      short e (refuses k f n h) = absurd (let z : k ≡ 5 = sym (ap (λ (t : Told). t.number) f) ∙ e in omega (arith, s.most))

      kept : ¬ ((told c.call tape).number ≡ 0) → ¬ ((told c.call tape).number ≡ 5) → Ending c.call tape →
          Refused c tape (told c.call tape).number c.out
      kept n m (succeeds x) = absurd (n (ap (λ (t : Told). t.number) x.told_so))
      kept n m (stops f) = absurd (m (ap (λ (t : Told). t.number) f))
      kept n m (refuses k f h e) =
          f ∙ ap₂ (λ (x : ℕ) (o : List ℕ). refusal x k o) s.has_fields s.out ∙ ap (λ (j : ℕ). refusal c.fields j c.out) (sym (ap (λ (t : Told). t.number) f))
