-- What a caller gets back (document 01, "What a caller gets back").
use Rattle.std.specs.Prelude.{Bool, List, [], ◌∷◌, ℕ, replicate, eqb}
use Rattle.numbers.specs.Tests.{pick}
use Rattle.tape.specs.Tape.{Ran, ended, ran, start}
use Rattle.draws.specs.Draws.{Draws, run}
use Rattle.checks.specs.declared.Refusal.{Refusal}
use Rattle.checks.specs.Checks.{first_failing}
use Rattle.checks.specs.Admission.{refusal_number}
use Rattle.gate.specs.declared.Answer.{Answer}
use Rattle.gate.specs.declared.Decomposed.{Decomposed}
use Rattle.gate.specs.declared.Judged.{Judged}

-- the number; what is in the other fields: the numbers that a gadget opens, of the verdict also its verdict; the words used; and the output slice
pub record Told : Type 0 where
  pub number : ℕ
  pub others : List ℕ
  pub used : ℕ
  pub out : List ℕ

-- a refusal: its number, and 0 for all else that is told
unfoldable pub refusal : ℕ → ℕ → List ℕ → Told
refusal fields number out = record { number = number; others = replicate fields 0; used = 0; out = out }

-- the refusal for a reason
abbrev pub refused : ℕ → Refusal → List ℕ → Told
refused fields reason out = refusal fields (refusal_number reason) out

-- the outcome of a gadget's steps: what fills those fields, and its shares
pub record Outcome : Type 0 where
  pub others : List ℕ
  pub shares : List ℕ

-- shares, and nothing opened
abbrev pub silent : List ℕ → Outcome
silent xs = record { others = []; shares = xs }

-- shares that were given, with the numbers that were opened before
unfoldable pub opened_ran : List ℕ → Ran (List ℕ) → Ran Outcome
opened_ran opened ended = ended
opened_ran opened (ran xs c) = ran (record { others = opened; shares = xs }) c

-- or with none
abbrev pub silent_ran : Ran (List ℕ) → Ran Outcome
silent_ran x = opened_ran [] x

-- the tape ends before the last draw, which leaves `short` in the output slice, or the number is 0 and the shares fill it
unfoldable pub ran_told : ℕ → Ran Outcome → (short : List ℕ) → Told
ran_told fields ended short = refusal fields 5 short
ran_told fields (ran o c) short = record { number = 0; others = o.others; used = c.at; out = o.shares }

-- a call, all but its tape given
pub record Call : Type 0 where
  pub checks : List (ℕ × Bool)
  -- its draws, to what fills the other fields and the shares that fill the output slice
  pub program : Draws Outcome
  -- how many other fields it has
  pub fields : ℕ
  -- the output slice, which a refusal by a check leaves unchanged
  pub out : List ℕ
  -- and what number 5 leaves in it
  pub short : List ℕ

-- the number of the first check that fails, or 0
unfoldable pub check_number : Call → ℕ
check_number c = first_failing c.checks

-- what it tells: a refusal by the first check that fails, or what its program gives on the tape
unfoldable pub told : Call → (tape : List ℕ) → Told
told c tape =
    pick (eqb (check_number c) 0) (ran_told c.fields (run c.program tape start) c.short)
    (refusal c.fields (check_number c) c.out)

-- what an answer with no other field and the output slice stand for
unfoldable pub stands_for : Answer → List ℕ → Told
stands_for r out = record { number = r.number; others = []; used = r.used; out = out }

-- and of Decompose, whose other field is the high part
unfoldable pub parts_stand_for : Decomposed → List ℕ → Told
parts_stand_for r out = record { number = r.number; others = r.high ∷ []; used = r.used; out = out }

-- and of the verdict, with its verdict and the opened number, and no output slice
unfoldable pub judged_stands_for : Judged → Told
judged_stands_for r = record { number = r.number; others = r.verdict ∷ r.opened ∷ []; used = r.used; out = [] }
