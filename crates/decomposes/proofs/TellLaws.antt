-- What Decompose tells, as the code goes through it.
use mathlib.Core.Path.{◌≡◌, refl, ap, ◌∙◌}
use mathlib.Core.List.{List, [], ◌∷◌}
use Prim.Native.Nat.{ℕ}
use native.Mathlib.Omega.{arith}
use Rattle.numbers.specs.Modulo.{q}
use Rattle.params.specs.declared.Params.{Params}
use Rattle.tape.specs.declared.Cursor.{Cursor}
use Rattle.tape.specs.Tape.{Ran, ended, ran}
use Rattle.draws.specs.Draws.{done, bind, run}
use Rattle.draws.proofs.RunLaws.{bind_assoc, part_ran, part_ended}
use Rattle.shares.specs.Sharing.{arithmetic}
use Rattle.shares.specs.Refresh.{refresh}
use Rattle.checks.specs.declared.Refusal.TheVariants.{TapeEnded}
use Rattle.gate.specs.declared.Answer.{Answer}
use Rattle.gate.specs.Told.{Outcome, refusal, refused, opened_ran, silent_ran, ran_told, stands_for, parts_stand_for}
use Rattle.gate.specs.Gadget.{closed}
use Rattle.gate.proofs.GadgetLaws.{run_opened}
use Rattle.parts.specs.Decompose.{high_part, low_shares, decompose}

-- where the tape has ended, and where the low shares are given after the high part was opened
module _ (x : Ran Outcome) (out : List ℕ) where
  pub parts_ended : x ≡ ended → refused 1 TapeEnded out ≡ ran_told 1 x out
  unfolding ran_told
  parts_ended e = rw e

  pub parts_ran : (high : ℕ) (ys : List ℕ) (c : Cursor) → x ≡ opened_ran (high ∷ []) (ran ys c) → parts_stand_for (record { number = 0; high = high; used = c.at }) ys ≡ ran_told 1 x out
  unfolding ran_told opened_ran parts_stand_for
  parts_ran high ys c e = rw e

-- and what was told of the low shares, with the numbers that were opened before: where it is a refusal, and where it is not
module _ (a : Answer) (out left : List ℕ) (x : Ran (List ℕ)) (e : stands_for a left ≡ ran_told 0 (silent_ran x) out) where
  pub told_refused : (opened : List ℕ) → ¬ (a.number ≡ 0) → refused 1 TapeEnded left ≡ ran_told 1 (opened_ran opened x) out
  unfolding stands_for refusal opened_ran ran_told
  told_refused opened n = go x e
    where
      go : (x : Ran (List ℕ)) → stands_for a left ≡ ran_told 0 (silent_ran x) out → refused 1 TapeEnded left ≡ ran_told 1 (opened_ran opened x) out
      go ended e = let same : left ≡ out = ap (λ t. t.out) e in rw same
      go (ran xs c) e = absurd (n (ap (λ t. t.number) e))

  pub told_parts : (high : ℕ) → a.number ≡ 0 → parts_stand_for (record { number = 0; high = high; used = a.used }) left ≡ ran_told 1 (opened_ran (high ∷ []) x) out
  unfolding stands_for refusal opened_ran ran_told parts_stand_for
  told_parts high z = go x e
    where
      go : (x : Ran (List ℕ)) → stands_for a left ≡ ran_told 0 (silent_ran x) out → parts_stand_for (record { number = 0; high = high; used = a.used }) left ≡ ran_told 1 (opened_ran (high ∷ []) x) out
      go ended e = let five : a.number ≡ 5 = ap (λ t. t.number) e in absurd (omega (arith, z))
      go (ran xs c) e =
          let used : a.used ≡ c.at = ap (λ t. t.used) e in
          let same : left ≡ xs = ap (λ t. t.out) e in
          rw (used, same) (parts_ran (opened_ran (high ∷ []) (ran xs c)) out high xs c refl)

module _ (p : Params) (xs tape : List ℕ) (c : Cursor) where
  -- closed, Decompose is the high part and then the refresh of the low shares
  closed_is : closed (arithmetic q) (decompose p xs) ≡ bind (high_part p xs) (λ high. bind (refresh (arithmetic q) (low_shares p high xs)) (λ zs. done (record { others = high ∷ []; shares = zs })))
  unfolding closed decompose bind
  closed_is = bind_assoc (high_part p xs) _ _

  pub high_ended : run (high_part p xs) tape c ≡ ended → run (closed (arithmetic q) (decompose p xs)) tape c ≡ ended
  high_ended = part_ended _ _ tape c closed_is

  pub high_ran : {high : ℕ} {d : Cursor} → run (high_part p xs) tape c ≡ ran high d →
      run (closed (arithmetic q) (decompose p xs)) tape c ≡ opened_ran (high ∷ []) (run (refresh (arithmetic q) (low_shares p high xs)) tape d)
  high_ran {high} {d} e = part_ran _ _ tape c closed_is e ∙ run_opened (high ∷ []) (refresh (arithmetic q) (low_shares p high xs)) tape d
