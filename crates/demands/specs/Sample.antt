-- What is claimed of both samplers (document 01, "Sampling" and "What a caller gets back").
use Rattle.std.specs.Prelude.{ℕ, length, replicate}
use Rattle.params.specs.Sets.{Known, params_of}
use Rattle.tape.specs.Tape.{start}
use Rattle.masks.specs.Sampling.{coefficient_plan}
use Rattle.masks.specs.Polynomial.{polynomial_plan}
use Rattle.masks.specs.Mask.{Mask}
use Rattle.masks.specs.Masks.{Masks}
use Rattle.demands.specs.Gadgets.{sampler, polynomial_sampler}
use Rattle.demands.specs.SamplerClaim.{SamplerClaim}

-- one coefficient of a mask
abbrev pub sampler_claim : ℕ → SamplerClaim
sampler_claim set =
    record {
      sampler = sampler set;
      InRange = Known set;
      coefficients = 1;
      draws = coefficient_plan (params_of set);
      Fills = λ n tape p out. Mask (params_of set) n tape start p out;
      short = λ out. out;
    }

-- the 256 of a polynomial; a short tape sets all words of its slice to 0
abbrev pub polynomial_claim : ℕ → SamplerClaim
polynomial_claim set =
    record {
      sampler = polynomial_sampler set;
      InRange = Known set;
      coefficients = 256;
      draws = polynomial_plan (params_of set);
      Fills = λ n tape p out. Masks (params_of set) n tape p out;
      short = λ out. replicate (length out) 0;
    }
