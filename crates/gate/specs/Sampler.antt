-- A gadget that draws its shares, and what it tells its caller (document 01, "What a caller gets back" and "Sampling").
use Rattle.std.specs.Prelude.{Bool, List, [], ℕ, ◌*◌, length}
use Rattle.draws.specs.Draws.{Draws}
use Rattle.checks.specs.Checks.{checks_of}
use Rattle.gate.specs.Told.{Told, Call, told}
use Rattle.gate.specs.Gadget.{silent_steps}

-- a sampler, its parameters given
pub record Sampler : Type 0 where
  -- the parameters are in their ranges
  pub in_range : Bool
  -- how many coefficients it fills
  pub coefficients : ℕ
  -- its steps for n shares, the closing refresh of each coefficient included, on the output slice
  pub steps : ℕ → List ℕ → Draws (List ℕ)
  -- what number 5 makes of the output slice
  pub short : List ℕ → List ℕ

-- a call of it: the share count n is stated, and number 4 cannot arise
abbrev pub sampler_call : Sampler → (n : ℕ) (out : List ℕ) → Call
sampler_call g n out =
    record {
      checks = checks_of n (length out) (g.coefficients * n) g.in_range [];
      program = silent_steps (g.steps n out);
      fields = 0;
      out = out;
      short = g.short out;
    }

unfoldable pub samples : Sampler → (n : ℕ) (tape out : List ℕ) → Told
samples g n tape out = told (sampler_call g n out) tape
