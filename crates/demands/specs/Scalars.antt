-- Demand 3, for the verdict: on one tape, of two numbers within the reach that are both accepted, exactly one last scalar for the second, nothing else on
-- the tape changed, gives the same answer; and of two that are both rejected, the same tape gives the same answer, in which 0 was opened.
use Rattle.std.specs.Prelude.{◌≡◌, true, false, List, [], ◌∷◌, ℕ, ◌-◌, length}
use Rattle.numbers.specs.Modulo.{q}
use Rattle.params.specs.Sets.{kind_of}
use Rattle.tape.specs.Tape.{start}
use Rattle.draws.specs.Anew.{OneAnew}
use Rattle.gate.specs.Judge.{judges}
use Rattle.sizes.specs.Verdict.{verdict_plan}
use Rattle.sizes.specs.Plain.{accepted}
use Rattle.sizes.specs.LastScalar.{last_scalar_marks}
use Rattle.demands.specs.Gadgets.{verdict_gadget}
use Rattle.demands.specs.Call.{Valid}
use Rattle.demands.specs.Verdict.{meant, Within, verdict_claim}

-- exactly one number for the last scalar's draw makes the second call tell what the first told: the verdict, the opened number and the count of words
-- used. The scalar is that number plus 1
abbrev pub OneScalar : (set kind : ℕ) → (shares tape second : List ℕ) → Type 0
OneScalar set kind shares tape second =
    OneAnew (last_scalar_marks (kind_of set kind) (length shares)) 1 (q - 1) (verdict_plan (kind_of set kind) (length shares)) tape start (λ t.
    judges (verdict_gadget set kind) second t ≡ judges (verdict_gadget set kind) shares tape)

-- the second call, on the same tape, tells what the first told, and 0 was opened
pub record BothZero (set kind : ℕ) (shares tape second : List ℕ) : Type 0 where
  pub same : judges (verdict_gadget set kind) second tape ≡ judges (verdict_gadget set kind) shares tape
  pub zero : (judges (verdict_gadget set kind) shares tape).others ≡ 0 ∷ 0 ∷ []

-- for a first call that succeeds, and a second one of the same set, kind and share count, both within the reach
pub record Scalars (set kind : ℕ) (shares tape second : List ℕ) : Type 0 where
  pub both-accepted : accepted (kind_of set kind) (meant shares) ≡ true → accepted (kind_of set kind) (meant second) ≡ true → OneScalar set kind shares tape second
  pub both_rejected : accepted (kind_of set kind) (meant shares) ≡ false → accepted (kind_of set kind) (meant second) ≡ false → BothZero set kind shares tape second

abbrev pub VerdictSettings : (set kind : ℕ) → (shares tape : List ℕ) → Type 0
VerdictSettings set kind shares tape =
    (judges (verdict_gadget set kind) shares tape).number ≡ 0 → (second : List ℕ) → Valid (verdict_claim set kind second) → length second ≡ length shares →
    Within (kind_of set kind) shares → Within (kind_of set kind) second → Scalars set kind shares tape second
