-- Both samplers meet demands 1 and 2, their answers are unique, and how many draws they make.
use mathlib.Core.Path.{◌≡◌, refl, ap₂, ◌∙◌}
use mathlib.Core.List.{List}
use Prim.Native.Nat.{ℕ, ◌+◌, ◌-◌, ◌*◌, ◌^◌, ◌≤◌, ◌<◌}
use native.Mathlib.Omega.{arith}
use lib.ListN.{length, length-append, length-replicate}
use Rattle.numbers.specs.Bits.{alpha}
use Rattle.params.specs.Sets.{Known, params_of}
use Rattle.params.proofs.RoomLaws.{alpha_most, mask_most}
use Rattle.params.proofs.SetLaws.{set_laws}
use Rattle.draws.proofs.PlanLaws.{repeated-length}
use Rattle.gate.specs.Told.{stands_for}
use Rattle.gate.specs.Sampler.{samples}
use Rattle.masks.specs.Sampling.{mask_plan, coefficient_plan}
use Rattle.masks.specs.Polynomial.{polynomial_plan}
use Rattle.masks.proofs.SampleGives.{coefficient_gives}
use Rattle.masks.proofs.MaskLaws.{coefficient_masks}
use Rattle.masks.proofs.PolynomialGives.{polynomial_gives}
use Rattle.masks.proofs.MasksLaws.{polynomial_masks}
use Rattle.demands.specs.Gadgets.{sampler, polynomial_sampler, to_mod_q_gadget}
use Rattle.demands.specs.Claim.{plan}
use Rattle.demands.specs.Convert.{to_mod_q_claim}
use Rattle.demands.specs.Demands.{SamplerDemands}
use Rattle.demands.specs.Unique.{Unique}
use Rattle.demands.specs.Sample.{sampler_claim, polynomial_claim}
use Rattle.demands.proofs.Answers.{set_tested}
use Rattle.demands.proofs.SamplerSteps.{SamplerSteps}
use Rattle.demands.proofs.Demands.{sampler_demands}
use Rattle.demands.proofs.Convert.{to_mod_q_call_draws}
use Rattle.demands.proofs.Unique.{unique_told}

-- n up to 8 leaves room
room : {set : ℕ} → Known set → (n : ℕ) → n ≤ 8 → (params_of set).mu + alpha n ≤ 32
room {set} k n most = omega (arith, mask_most (set_laws (params_of set)), alpha_most n most)

sampler_steps : (set : ℕ) → SamplerSteps (sampler_claim set)
unfolding sampler
sampler_steps set =
    record {
      range = set_tested set;
      count = refl;
      short = λ out. refl;
      planned = λ k n least most out e. (coefficient_gives (set_laws (params_of set)) n (omega arith) (room k n most)).plan;
      fills = λ k n least most tape out e r. coefficient_masks (set_laws (params_of set)) n (omega arith) (room k n most) tape r;
    }

polynomial_steps : (set : ℕ) → SamplerSteps (polynomial_claim set)
unfolding polynomial_sampler
polynomial_steps set =
    record {
      range = set_tested set;
      count = refl;
      short = λ out. refl;
      planned = λ k n least most out e. (polynomial_gives (set_laws (params_of set)) n (omega arith) (room k n most) out e).plan;
      fills = λ k n least most tape out e r. polynomial_masks (set_laws (params_of set)) n (omega arith) (room k n most) tape out e r;
    }

pub sample_demands : (set : ℕ) → SamplerDemands (sampler_claim set)
sample_demands set = sampler_demands (sampler_steps set)

pub sample_polynomial_demands : (set : ℕ) → SamplerDemands (polynomial_claim set)
sample_polynomial_demands set = sampler_demands (polynomial_steps set)

pub sample_unique : (set n : ℕ) (tape out : List ℕ) → Unique stands_for (samples (sampler set) n tape out)
sample_unique set n tape out = unique_told (samples (sampler set) n tape out)

pub sample_polynomial_unique : (set n : ℕ) (tape out : List ℕ) → Unique stands_for (samples (polynomial_sampler set) n tape out)
sample_polynomial_unique set n tape out = unique_told (samples (polynomial_sampler set) n tape out)

-- 3·2^d − 3 + n + α·d² draws a coefficient, for d = n - 1, and 256 times as many a polynomial
pub sample_call_draws : (set n : ℕ) → 0 < n → length (coefficient_plan (params_of set) n) ≡ 3 * 2 ^ (n - 1) - 3 + n + alpha n * ((n - 1) * (n - 1))
unfolding coefficient_plan plan to_mod_q_gadget
sample_call_draws set n h =
    let μ : ℕ = (params_of set).mu in
    length-append (mask_plan (params_of set) n) (plan (to_mod_q_claim μ) n) ∙ ap₂ ◌+◌ (length-replicate n (2 ^ μ)) (to_mod_q_call_draws μ n h) ∙ omega arith

pub sample_polynomial_call_draws : (set n : ℕ) → length (polynomial_plan (params_of set) n) ≡ 256 * length (coefficient_plan (params_of set) n)
unfolding polynomial_plan
sample_polynomial_call_draws set n = repeated-length 256 (coefficient_plan (params_of set) n)
