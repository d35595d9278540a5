-- What the verdict tells, as the code goes through it.
use mathlib.Core.Path.{◌≡◌, refl, sym, ap, ◌∙◌}
use mathlib.Core.List.{List, []}
use Prim.Native.Nat.{ℕ}
use Rattle.numbers.specs.Modulo.{q}
use Rattle.params.specs.declared.Bounds.{Bounds}
use Rattle.tape.specs.declared.Cursor.{Cursor}
use Rattle.tape.specs.Tape.{ended, ran}
use Rattle.draws.specs.Draws.{run}
use Rattle.draws.proofs.RunLaws.{run_done, part_ran, part_ended}
use Rattle.shares.specs.Sharing.{arithmetic, value}
use Rattle.gate.specs.Told.{refusal, ran_told, judged_stands_for}
use Rattle.sizes.specs.Verdict.{tested, verdict_of, verdict}
use Rattle.gate.specs.declared.Judged.{Judged}

module _ (bounds : Bounds) (xs tape : List ℕ) (c : Cursor) where
  pub judged_ended : run (tested bounds xs) tape c ≡ ended → refusal 2 5 [] ≡ ran_told 2 (run (verdict bounds xs) tape c) []
  unfolding verdict ran_told
  judged_ended e = sym (ap (λ x. ran_told 2 x []) (part_ended _ _ tape c refl e))

  -- the shares ts are opened
  pub judged_ran : (ts : List ℕ) {d : Cursor} → run (tested bounds xs) tape c ≡ ran ts d → {o : ℕ} → o ≡ value (arithmetic q) ts →
      (r : Judged) → r.number ≡ 0 → r.verdict ≡ verdict_of o → r.opened ≡ o → r.used ≡ d.at → judged_stands_for r ≡ ran_told 2 (run (verdict bounds xs) tape c) []
  unfolding verdict ran_told judged_stands_for
  judged_ran ts {d} e f r number says opened used =
      let g = part_ran _ _ tape c refl e ∙ run_done _ tape d in
      rw (number, says, opened, used, f) (sym (ap (λ x. ran_told 2 x []) g))
