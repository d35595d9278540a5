-- Laws of what a gadget tells.
use mathlib.Core.Path.{◌≡◌, refl, sym, ap, ap₂, ◌∙◌}
use mathlib.Core.Bool.{Bool}
use mathlib.Core.List.{List, []}
use Prim.Native.Nat.{ℕ, ◌*◌, ◌≤◌}
use native.Mathlib.Omega.{arith}
use lib.ListN.{length, take}
use borrow.Author.Tests.{eq-eqb, ne_eqb}
use Rattle.tape.specs.declared.Cursor.{Cursor}
use Rattle.tape.specs.Tape.{Ran, ended, ran, start}
use Rattle.draws.specs.Draws.{Draws, done, bind, after, next, run}
use Rattle.draws.proofs.RunLaws.{bind_assoc, run_bind, bind_ran, bind_ended}
use Rattle.shares.specs.Sharing.{Sharing, bound}
use Rattle.shares.specs.Refresh.{refresh}
use Rattle.shares.specs.declared.Row.{Row}
use Rattle.numbers.specs.Lists.{Words}
use Rattle.std.specs.Prelude.{Option, Some, None, IfSome, MatchOption}
use Rattle.shares.specs.Arrays.{Held, Copied, shared, Gave}
use Rattle.shares.proofs.ArraysLaws.{gave_is}
use Rattle.checks.specs.Checks.{first_failing, checks_of, Checked, checks, leave_out}
use Rattle.gate.specs.declared.Answer.{Answer}
use Rattle.checks.specs.declared.Refusal.{Refusal}
use Rattle.checks.specs.Admission.{refusal_number}
use Rattle.checks.proofs.AdmissionLaws.{refusal_counts}
use Rattle.gate.specs.Told.{Told, refusal, refused, Outcome, silent, opened_ran, silent_ran, ran_told, Call, check_number, told, stands_for}
use Rattle.gate.specs.Gadget.{Gadget, silent_steps, silent_gadget, closed, call, tells}
use Rattle.gate.specs.Sampler.{Sampler, sampler_call, samples}
use Rattle.gate.specs.Judge.{Judge, judge_checks, judge_call, judges}

module _ (c : Call) (tape : List ℕ) where
  -- no check fails
  pub tells-passed : check_number c ≡ 0 → told c tape ≡ ran_told c.fields (run c.program tape start) c.short
  unfolding told
  tells-passed e = rw (eq-eqb (check_number c) 0 e)

  -- one does
  pub tells_refused : (check_number c ≡ 0 → ⊥) → told c tape ≡ refusal c.fields (check_number c) c.out
  unfolding told
  tells_refused n = rw (ne_eqb (check_number c) 0 n)

-- shares given after numbers were opened, run
pub run_opened : (opened : List ℕ) (d : Draws (List ℕ)) (tape : List ℕ) (p : Cursor) →
    run (bind d (λ xs. done (record { others = opened; shares = xs }))) tape p ≡ opened_ran opened (run d tape p)
unfolding next after opened_ran run
run_opened opened d tape p = run_bind d (λ xs. done (record { others = opened; shares = xs })) tape p ∙ last (run d tape p)
  where
    last : (x : Ran (List ℕ)) → next x (λ zs c. run (done (record { others = opened; shares = zs })) tape c) ≡ opened_ran opened x
    last ended = refl
    last (ran zs c) = refl

-- so of steps that open nothing
pub run-silent : (d : Draws (List ℕ)) (tape : List ℕ) (p : Cursor) → run (silent_steps d) tape p ≡ silent_ran (run d tape p)
unfolding silent_steps
run-silent d tape p = run_opened [] d tape p

-- closed, they are the steps and then the refresh
pub closed-silent : (s : Sharing) (d : Draws (List ℕ)) (tape : List ℕ) (p : Cursor) → run (closed s (silent_steps d)) tape p ≡ silent_ran (run (bind d (refresh s)) tape p)
unfolding closed silent_steps bind
closed-silent s d tape p =
    ap (λ e. run e tape p) (bind_assoc d (λ xs. done (silent xs)) (λ o. bind (refresh s o.shares) (λ zs. done (record { others = o.others; shares = zs })))
    ∙ sym (bind_assoc d (refresh s) (λ zs. done (silent zs))))
    ∙ run-silent (bind d (refresh s)) tape p

-- what the code's answers stand for
module _ (x : Ran (List ℕ)) (out : List ℕ) where
  pub told_ended : x ≡ ended → refusal 0 5 out ≡ ran_told 0 (silent_ran x) out
  unfolding ran_told opened_ran
  told_ended e = rw e

  pub told_ran : {ys : List ℕ} {c : Cursor} → x ≡ ran ys c → (r : Answer) → r.number ≡ 0 → r.used ≡ c.at → stands_for r ys ≡ ran_told 0 (silent_ran x) out
  unfolding ran_told stands_for opened_ran
  told_ran e r f g = rw (e, f, g)

-- a call keeps its promise where a check failed
pub by_check : (c : Call) (tape : List ℕ) {k : ℕ} {t : Told} → k ≡ check_number c → (k ≡ 0 → ⊥) → t ≡ refusal c.fields k c.out → t ≡ told c tape
by_check c tape e n f = f ∙ ap (λ (m : ℕ). refusal c.fields m c.out) e ∙ sym (tells_refused c tape (λ z. n (e ∙ z)))

by_refusal : (c : Call) (tape : List ℕ) (r : Refusal) {t : Told} → check_number c ≡ refusal_number r → t ≡ refused c.fields r c.out → t ≡ told c tape
by_refusal c tape r e f = by_check c tape (sym e) (refusal_counts r) f

-- a public gadget on shares keeps its promise: where a check failed, and where its steps and the closing refresh ran
module _ (g : Gadget) (shares tape out : List ℕ) where
  pub gadget_refused : (r : Refusal) {t : Told} → first_failing (checks shares (length out) g.in_range (bound g.input)) ≡ refusal_number r →
      t ≡ refused g.fields r out → t ≡ tells g shares tape out
  unfolding check_number tells
  gadget_refused r e f = by_refusal (call g shares out) tape r e f

  pub gadget_ran : {t : Told} {x : Ran Outcome} → first_failing (checks shares (length out) g.in_range (bound g.input)) ≡ 0 →
      t ≡ ran_told g.fields x out → x ≡ run (closed g.output (g.steps shares)) tape start → t ≡ tells g shares tape out
  unfolding check_number tells
  gadget_ran e f h = f ∙ ap (λ y. ran_told g.fields y out) h ∙ sym (tells-passed (call g shares out) tape e)

-- so does one that opens nothing
module _ (in_range : Bool) (input output : Sharing) (steps : List ℕ → Draws (List ℕ)) (shares tape out : List ℕ) where
  pub silent_refused : (r : Refusal) {t : Told} → first_failing (checks shares (length out) in_range (bound input)) ≡ refusal_number r → t ≡ refused 0 r out →
      t ≡ tells (silent_gadget in_range input output steps) shares tape out
  silent_refused r e f = gadget_refused (silent_gadget in_range input output steps) shares tape out r e f

  -- what filled a slice of as many words as there are shares
  pub silent_ran_lem : {t : Told} (r : Option (Row 8)) → first_failing (checks shares (length out) in_range (bound input)) ≡ 0 → length out ≡ length shares →
      t ≡ ran_told 0 (silent_ran (shared (length out) r)) out → shared (length shares) r ≡ run (bind (steps shares) (refresh output)) tape start →
      t ≡ tells (silent_gadget in_range input output steps) shares tape out
  silent_ran_lem r e l f h =
      gadget_ran (silent_gadget in_range input output steps) shares tape out e f
      (ap silent_ran (ap (λ (n : ℕ). shared n r) l ∙ h) ∙ sym (closed-silent output (steps shares) tape start))

-- so does a sampler
module _ (g : Sampler) (n : ℕ) (tape out : List ℕ) where
  pub sampler_refused : (r : Refusal) {t : Told} → first_failing (checks_of n (length out) (g.coefficients * n) g.in_range []) ≡ refusal_number r →
      t ≡ refused 0 r out → t ≡ samples g n tape out
  unfolding samples check_number
  sampler_refused r e f = by_refusal (sampler_call g n out) tape r e f

  pub sampler_ran : {t : Told} {x : Ran (List ℕ)} → first_failing (checks_of n (length out) (g.coefficients * n) g.in_range []) ≡ 0 →
      t ≡ ran_told 0 (silent_ran x) (g.short out) → x ≡ run (g.steps n out) tape start → t ≡ samples g n tape out
  unfolding samples check_number
  sampler_ran e f h =
      f ∙ ap (λ y. ran_told 0 (silent_ran y) (g.short out)) h ∙ ap (λ y. ran_told 0 y (g.short out)) (sym (run-silent (g.steps n out) tape start))
      ∙ sym (tells-passed (sampler_call g n out) tape e)

-- an output slice that is not there has the right length
pub judge_checks_lem : (g : Judge) (shares : List ℕ) → first_failing (checks shares (length shares) g.in_range (bound g.input)) ≡ first_failing (judge_checks shares g.in_range (bound g.input))
unfolding first_failing checks checks_of leave_out judge_checks
judge_checks_lem g shares = rw (eq-eqb (length shares) (length shares) refl)

-- so does a gadget that judges
module _ (g : Judge) (shares tape : List ℕ) where
  pub judge_refused : (r : Refusal) {t : Told} → first_failing (judge_checks shares g.in_range (bound g.input)) ≡ refusal_number r →
      t ≡ refused g.fields r [] → t ≡ judges g shares tape
  unfolding judges check_number
  judge_refused r e f = by_refusal (judge_call g shares) tape r e f

  pub judge_ran : {t : Told} {x : Ran Outcome} → first_failing (judge_checks shares g.in_range (bound g.input)) ≡ 0 → t ≡ ran_told g.fields x [] →
      x ≡ run (g.steps shares) tape start → t ≡ judges g shares tape
  unfolding judges check_number
  judge_ran e f h = f ∙ ap (λ y. ran_told g.fields y []) h ∙ sym (tells-passed (judge_call g shares) tape e)

-- steps that ran on the copied shares from the tape's start ran on the shares
module _ (d : List ℕ → Draws (List ℕ)) {shares words : List ℕ} (tape : List ℕ) {c : Cursor} (w : Copied 8 shares words) (f : c ≡ start) where
  on_copy : run (d (take (length shares) words)) tape c ≡ run (d shares) tape start
  on_copy = ap₂ (λ (xs : List ℕ) (p : Cursor). run (d xs) tape p) w.first f

  pub given_copy : (M : ℕ) (r : Option (Row 8)) → Gave (length shares) M r (run (d (take (length shares) words)) tape c) → shared (length shares) r ≡ run (d shares) tape start
  given_copy M r g = gave_is (length shares) M r g ∙ on_copy

  -- and so did the closing refresh after them
  module _ (output : Sharing) where
    pub closed_copy : (N : ℕ) (r : Option (Row 8)) {xs : List ℕ} {p : Cursor} → run (d (take (length shares) words)) tape c ≡ ran xs p →
        Gave (length shares) N r (run (refresh output xs) tape p) → shared (length shares) r ≡ run (bind (d shares) (refresh output)) tape start
    closed_copy N r g h = gave_is (length shares) N r h ∙ sym (bind_ran (d shares) (refresh output) tape start _ _ (sym on_copy ∙ g))

    pub short_copy : run (d (take (length shares) words)) tape c ≡ ended → ended ≡ run (bind (d shares) (refresh output)) tape start
    short_copy g = sym (bind_ended (d shares) (refresh output) tape start (sym on_copy ∙ g))

    -- so of what they gave, the tape ended or not
    pub closed_if_given : (M N : ℕ) (s r : Option (Row 8)) → Gave (length shares) M s (run (d (take (length shares) words)) tape c) →
        MatchOption s (r ≡ None) (λ row. Gave (length shares) N r (run (refresh output (take (length shares) row.words)) tape row.cursor)) → shared (length shares) r ≡ run (bind (d shares) (refresh output)) tape start
    closed_if_given M N (Some row) r g h = closed_copy N r g.0 h
    closed_if_given M N None r g h = rw h (short_copy g)

-- as many words as there are shares, where no check failed: the copied shares, below M
module _ {shares : List ℕ} {room M : ℕ} (c : Checked shares room M) where
  pub held : {words : List ℕ} → 2 ≤ M → Copied 8 shares words → Held 8 (length shares) M words
  held two w = record { least = c.least; most = c.most; two = two; all = w.rest M (omega arith) c.below }

  -- and what the steps gave of them, below N
  pub held_given : {N : ℕ} {words : List ℕ} → 2 ≤ N → Words 8 N words → Held 8 (length shares) N words
  held_given two w = record { least = c.least; most = c.most; two = two; all = w }

  -- if they gave it
  pub held_if_given : (N : ℕ) (s : Option (Row 8)) (x : Ran (List ℕ)) → 2 ≤ N → Gave (length shares) N s x → IfSome s (λ row. Held 8 (length shares) N row.words)
  held_if_given N (Some row) x two g = held_given two g.1
  held_if_given N None x two g = tt
