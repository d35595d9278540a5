-- The demands, of a gadget that turns shares into shares, of a sampler, and of the verdict.
use Rattle.std.specs.Prelude.{◌≡◌, List, ℕ}
use Rattle.gate.specs.Sampler.{samples}
use Rattle.gate.specs.Judge.{judges}
use Rattle.demands.specs.Gadgets.{verdict_gadget}
use Rattle.demands.specs.Claim.{Claim, on_shares}
use Rattle.demands.specs.SamplerClaim.{SamplerClaim, on_stated}
use Rattle.demands.specs.Refusals.{Refusals}
use Rattle.demands.specs.Values.{Values}
use Rattle.demands.specs.Settings.{Settings}
use Rattle.demands.specs.Verdict.{verdict_claim}
use Rattle.demands.specs.Scalars.{VerdictSettings}

pub record Demands (c : Claim) : Type 0 where
  pub refusals : (shares tape out : List ℕ) → Refusals (on_shares c shares out) tape
  pub values : (shares tape out : List ℕ) → Values (on_shares c shares out) tape
  pub settings : (shares tape out : List ℕ) → Settings c shares tape out

-- demand 3 speaks of gadgets that are given shares
pub record SamplerDemands (c : SamplerClaim) : Type 0 where
  pub refusals : (n : ℕ) (tape out : List ℕ) → Refusals (on_stated c n out) tape
  pub values : (n : ℕ) (tape out : List ℕ) → Values (on_stated c n out) tape
  -- number 4 cannot arise
  pub no_4 : (n : ℕ) (tape out : List ℕ) → ¬ ((samples c.sampler n tape out).number ≡ 4)

pub record VerdictDemands (set kind : ℕ) : Type 0 where
  pub refusals : (shares tape : List ℕ) → Refusals (verdict_claim set kind shares) tape
  pub values : (shares tape : List ℕ) → Values (verdict_claim set kind shares) tape
  pub settings : (shares tape : List ℕ) → VerdictSettings set kind shares tape
  -- number 2 cannot arise
  pub no_2 : (shares tape : List ℕ) → ¬ ((judges (verdict_gadget set kind) shares tape).number ≡ 2)
