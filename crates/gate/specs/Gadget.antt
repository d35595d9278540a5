-- A gadget that turns shares into shares, and what it tells its caller (document 01, "What a caller gets back" and "Closing refresh").
use Rattle.std.specs.Prelude.{Bool, List, ℕ, length}
use Rattle.draws.specs.Draws.{Draws, done, bind}
use Rattle.shares.specs.Sharing.{Sharing, bound}
use Rattle.shares.specs.Refresh.{refresh}
use Rattle.checks.specs.Checks.{checks}
use Rattle.gate.specs.Told.{Told, Outcome, silent, Call, told}

-- a gadget, its parameters given
pub record Gadget : Type 0 where
  -- the parameters are in their ranges
  pub in_range : Bool
  -- how its input and its output are shared
  pub input : Sharing
  pub output : Sharing
  -- how many numbers it opens
  pub fields : ℕ
  -- its steps before the closing refresh
  pub steps : List ℕ → Draws Outcome

-- steps that open nothing
unfoldable pub silent_steps : Draws (List ℕ) → Draws Outcome
silent_steps d = bind d (λ xs. done (silent xs))

-- a gadget that opens nothing
abbrev pub silent_gadget : Bool → (input output : Sharing) → (List ℕ → Draws (List ℕ)) → Gadget
silent_gadget in_range input output steps = record { in_range = in_range; input = input; output = output; fields = 0; steps = λ xs. silent_steps (steps xs) }

-- a gadget on shares ends with a closing refresh, in its output's modulus or width; a sampler's steps close each coefficient themselves
unfoldable pub closed : Sharing → Draws Outcome → Draws Outcome
closed s d = bind d (λ o. bind (refresh s o.shares) (λ zs. done (record { others = o.others; shares = zs })))

-- a call of it; number 5 leaves the output slice unchanged too
abbrev pub call : Gadget → (shares out : List ℕ) → Call
call g shares out =
    record {
      checks = checks shares (length out) g.in_range (bound g.input);
      program = closed g.output (g.steps shares);
      fields = g.fields;
      out = out;
      short = out;
    }

unfoldable pub tells : Gadget → (shares tape out : List ℕ) → Told
tells g shares tape out = told (call g shares out) tape
