-- A gadget that judges shares, and what it tells its caller: numbers, and no shares (document 01, "What a caller gets back" and "Verdict").
use Rattle.std.specs.Prelude.{Bool, List, [], ℕ, length}
use Rattle.draws.specs.Draws.{Draws}
use Rattle.shares.specs.Sharing.{Sharing, bound}
use Rattle.checks.specs.Checks.{checks, leave_out}
use Rattle.gate.specs.Told.{Told, Outcome, Call, told}

-- such a gadget, its parameters given
pub record Judge : Type 0 where
  -- the parameters are in their ranges
  pub in_range : Bool
  -- how its input is shared
  pub input : Sharing
  -- how many numbers it tells beside the number of a refusal and the words used
  pub fields : ℕ
  -- its steps, to those numbers; an outcome of theirs has no shares
  pub steps : List ℕ → Draws Outcome

-- the checks of a gadget on shares but number 2, which cannot arise: there is no output slice
unfoldable pub judge_checks : List ℕ → Bool → ℕ → List (ℕ × Bool)
judge_checks shares in_range M = leave_out 2 (checks shares (length shares) in_range M)

-- a call of it; nothing is left to close, and nothing is lent but what is only read
abbrev pub judge_call : Judge → (shares : List ℕ) → Call
judge_call g shares =
    record {
      checks = judge_checks shares g.in_range (bound g.input);
      program = g.steps shares;
      fields = g.fields;
      out = [];
      short = [];
    }

unfoldable pub judges : Judge → (shares tape : List ℕ) → Told
judges g shares tape = told (judge_call g shares) tape
