-- Widening meets the three demands, its answers are unique, and how many draws it makes.
use mathlib.Core.Path.{◌≡◌, refl, ◌∙◌}
use mathlib.Core.List.{List}
use Prim.Native.Nat.{ℕ, ◌+◌, ◌-◌, ◌*◌, ◌%◌, ◌^◌}
use native.Mathlib.Omega.{arith}
use lib.ListN.{length, length-append, length-replicate}
use Rattle.numbers.specs.Modulo.{q}
use Rattle.numbers.specs.Bits.{alpha}
use Rattle.numbers.specs.Lists.{sum}
use Rattle.params.specs.Sets.{kind_of}
use Rattle.draws.proofs.PlanLaws.{gives_map}
use Rattle.shares.specs.Refresh.{refresh_plan}
use Rattle.halves.proofs.FloorLaws.{shift_draws}
use Rattle.gate.specs.Told.{stands_for, silent}
use Rattle.gate.specs.Gadget.{silent_steps, tells}
use Rattle.sizes.specs.Widening.{widen_plan}
use Rattle.sizes.proofs.WideningSteps.{wide_two}
use Rattle.sizes.proofs.WideningGives.{widen_gives}
use Rattle.demands.specs.Gadgets.{widen_gadget}
use Rattle.demands.specs.Claim.{plan}
use Rattle.demands.specs.Demands.{Demands}
use Rattle.demands.specs.Unique.{Unique}
use Rattle.demands.specs.Widen.{widen_claim}
use Rattle.demands.proofs.Answers.{kind_tested, laws_of}
use Rattle.demands.proofs.Steps.{Steps}
use Rattle.demands.proofs.Demands.{demands}
use Rattle.demands.proofs.Unique.{unique}

widen_steps : (set kind : ℕ) → Steps (widen_claim set kind)
unfolding widen_gadget silent_steps
widen_steps set kind =
    record {
      range =
          record {
            tested = kind_tested set kind;
            positive = λ r. omega (arith, wide_two (laws_of kind r.0));
            word = λ r. omega (arith, (laws_of kind r.0).word);
          };
      has_fields = refl;
      opens_fields = λ x. refl;
      give = λ r n least most xs w.
          gives_map _ silent (widen_gives (laws_of kind r.0) n (sum xs % q) xs (omega arith) (record { words = w; is = refl }))
          (λ ys a. record { opened = refl; words = a.words; recombined = a.kept });
    }

pub widen_demands : (set kind : ℕ) → Demands (widen_claim set kind)
widen_demands set kind = demands (widen_steps set kind)

pub widen_unique : (set kind : ℕ) (shares tape out : List ℕ) → Unique stands_for (tells (widen_gadget set kind) shares tape out)
widen_unique set kind = unique (widen_gadget set kind)

-- (α + 1)·d² + d draws a call, for d = n - 1
pub widen_call_draws : (set kind n : ℕ) → length (plan (widen_claim set kind) n) ≡ (alpha n + 1) * ((n - 1) * (n - 1)) + (n - 1)
unfolding plan refresh_plan widen_plan
widen_call_draws set kind n = length-append (widen_plan (kind_of set kind) n) _ ∙ rw (shift_draws (2 ^ (kind_of set kind).rho) (alpha n + 1) n, length-replicate)
