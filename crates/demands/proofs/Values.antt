-- Demand 2, of every call.
use mathlib.Core.Path.{◌≡◌, refl, sym, ap, subst}
use mathlib.Core.List.{List}
use Prim.Native.Nat.{ℕ}
use native.Mathlib.Omega.{arith}
use Rattle.tape.specs.Tape.{start}
use Rattle.draws.proofs.PlanLaws.{planned_ran, words_used, run_reads}
use Rattle.gate.specs.Told.{Told, told}
use Rattle.demands.specs.Call.{CallClaim}
use Rattle.demands.specs.Values.{Correct, Values}
use Rattle.demands.proofs.Answers.{Answers}
use Rattle.demands.proofs.Runs.{tells_success, Succeeded, succeeded, success}

module _ {c : CallClaim} (s : Answers c) (tape : List ℕ) where
  correct : (told c.call tape).number ≡ 0 → Correct c tape (told c.call tape)
  correct e = subst (Correct c tape) (sym x.told_so) right
    where
      x : Succeeded c.call tape
      x = succeeded c.call tape e

      right : Correct c tape (success x.outcome x.place)
      right =
          let v = s.valid x.passes in
          let d = s.right v tape x.ran_to in
          record {
            valid = v;
            place = x.place;
            right = d;
            fields = s.fields tape x.place x.outcome d;
            up_to = refl;
            used = omega (arith, words_used (s.planned v) tape start x.ran_to);
            read = λ other same. tells_success c.call other x.passes (run_reads c.call.program start x.ran_to same);
          }

  pub values : Values c tape
  values =
      record {
        succeeds = λ v rs p e. ap (λ (t : Told). t.number) (tells_success c.call tape (s.passes v) (planned_ran (s.planned v) tape start e));
        correct = correct;
      }
