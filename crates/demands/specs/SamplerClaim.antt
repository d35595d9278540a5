-- What is claimed of a sampler, its parameters given.
use Rattle.std.specs.Prelude.{◌≡◌, List, [], ℕ, ◌*◌, length}
use Rattle.tape.specs.declared.Cursor.{Cursor}
use Rattle.gate.specs.Sampler.{Sampler, sampler_call}
use Rattle.demands.specs.Call.{CallClaim, Counted}

pub record SamplerClaim : Type 1 where
  pub sampler : Sampler
  -- the parameters are in their ranges
  pub InRange : Type 0
  -- how many coefficients it fills, of n words each
  pub coefficients : ℕ
  -- what it draws below, in turn, for n shares
  pub draws : ℕ → List ℕ
  -- what it fills the output slice with, for n shares, from the words of the tape up to a place
  pub Fills : ℕ → (tape : List ℕ) → Cursor → List ℕ → Type 0
  -- what a short tape makes of the output slice
  pub short : List ℕ → List ℕ

-- what is claimed of a call with n stated: there are no input shares to check, and nothing is opened
abbrev pub on_stated : SamplerClaim → ℕ → (out : List ℕ) → CallClaim
on_stated c n out =
    record {
      call = sampler_call c.sampler n out;
      fields = 0;
      out = out;
      short = c.short out;
      Count = Counted n;
      Room = length out ≡ c.coefficients * n;
      InRange = c.InRange;
      Below = Unit {0};
      plan = c.draws n;
      Right = λ tape p o. c.Fills n tape p o.shares × (o.others ≡ []);
    }
