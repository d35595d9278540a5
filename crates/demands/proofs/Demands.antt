-- The demands follow from what a gadget shows of its steps.
use Rattle.demands.specs.Claim.{Claim}
use Rattle.demands.specs.SamplerClaim.{SamplerClaim}
use Rattle.demands.specs.Demands.{Demands, SamplerDemands}
use Rattle.demands.proofs.Steps.{Steps, on_shares_lem}
use Rattle.demands.proofs.SamplerSteps.{SamplerSteps, on_stated_lem, no_share}
use Rattle.demands.proofs.Refusals as Refusals
use Rattle.demands.proofs.Values as Values
use Rattle.demands.proofs.Settings as Settings

pub demands : {c : Claim} → Steps c → Demands c
demands s =
    record {
      refusals = λ shares tape out. Refusals.refusals (on_shares_lem s shares out) tape;
      values = λ shares tape out. Values.values (on_shares_lem s shares out) tape;
      settings = Settings.settings s;
    }

pub sampler_demands : {c : SamplerClaim} → SamplerSteps c → SamplerDemands c
sampler_demands {c} s =
    record {
      refusals = λ n tape out. Refusals.refusals (on_stated_lem s n out) tape;
      values = λ n tape out. Values.values (on_stated_lem s n out) tape;
      no_4 = no_share c.sampler;
    }
