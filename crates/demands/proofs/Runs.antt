-- From what a call tells to the run of its program, and back.
use mathlib.Core.Path.{◌≡◌, refl, sym, ap, ◌∙◌}
use mathlib.Core.List.{List}
use Prim.Native.Nat.{ℕ}
use native.Mathlib.Omega.{arith}
use native.Mathlib.Decide.{ℕ_discrete}
use Rattle.tape.specs.declared.Cursor.{Cursor}
use Rattle.tape.specs.Tape.{Ran, ended, ran, start}
use Rattle.draws.specs.Draws.{run}
use Rattle.gate.specs.Told.{Told, refusal, Outcome, ran_told, Call, check_number, told}
use Rattle.gate.proofs.GadgetLaws.{tells-passed, tells_refused}

-- what is told where the run came to its end
abbrev pub success : Outcome → Cursor → Told
success o p = record { number = 0; others = o.others; used = p.at; out = o.shares }

module _ (c : Call) (tape : List ℕ) where
  pub tells_success : {o : Outcome} {p : Cursor} → check_number c ≡ 0 → run c.program tape start ≡ ran o p → told c tape ≡ success o p
  unfolding ran_told
  tells_success e f = tells-passed c tape e ∙ ap (λ x. ran_told c.fields x c.short) f

  pub tells_short : check_number c ≡ 0 → run c.program tape start ≡ ended → told c tape ≡ refusal c.fields 5 c.short
  unfolding ran_told
  tells_short e f = tells-passed c tape e ∙ ap (λ x. ran_told c.fields x c.short) f

  -- a call that succeeds: no check failed, and the run came to its end
  pub record Succeeded : Type 0 where
    pub passes : check_number c ≡ 0
    pub outcome : Outcome
    pub place : Cursor
    pub ran_to : run c.program tape start ≡ ran outcome place
    pub told_so : told c tape ≡ success outcome place

  -- or one that met the tape's end, or that a check refused
  pub data Ending : Type 0 where
    succeeds : Succeeded → Ending
    stops : told c tape ≡ refusal c.fields 5 c.short → Ending
    refuses : (k : ℕ) → told c tape ≡ refusal c.fields k c.out → ¬ (k ≡ 0) → k ≡ check_number c → Ending

  pub ending : Ending
  ending = go (ℕ_discrete (check_number c) 0)
    where
      ran_or_not : (x : Ran Outcome) → check_number c ≡ 0 → run c.program tape start ≡ x → Ending
      ran_or_not ended e f = stops (tells_short e f)
      ran_or_not (ran o p) e f = succeeds (record { passes = e; outcome = o; place = p; ran_to = f; told_so = tells_success e f })

      go : Dec (check_number c ≡ 0) → Ending
      go (yes e) = ran_or_not (run c.program tape start) e refl
      go (no n) = refuses (check_number c) (tells_refused c tape n) n refl

  pub succeeded : (told c tape).number ≡ 0 → Succeeded
  unfolding refusal
  succeeded e = go ending
    where
      go : Ending → Succeeded
      go (succeeds x) = x
      go (stops f) = absurd (let z : 5 ≡ 0 = sym (ap (λ (t : Told). t.number) f) ∙ e in omega arith)
      go (refuses k f n h) = absurd (n (sym (ap (λ (t : Told). t.number) f) ∙ e))

-- a number that is neither 0 nor 5, and that no check has, is not answered
pub never : (c : Call) (tape : List ℕ) (k : ℕ) → ¬ (k ≡ 0) → ¬ (k ≡ 5) → ¬ (check_number c ≡ k) → ¬ ((told c tape).number ≡ k)
unfolding refusal
never c tape k zero five none e = go (ending c tape)
  where
    number : {t : Told} → told c tape ≡ t → t.number ≡ k
    number f = sym (ap (λ (t : Told). t.number) f) ∙ e

    go : Ending c tape → ⊥
    go (succeeds x) = zero (sym (number x.told_so))
    go (stops f) = five (sym (number f))
    go (refuses j f m h) = none (sym h ∙ number f)
