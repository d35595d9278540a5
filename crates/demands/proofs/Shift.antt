-- The shift and arithmetic to Boolean meet the three demands, their answers are unique, and how many draws they make.
use mathlib.Core.Path.{◌≡◌, refl, subst, ◌∙◌}
use mathlib.Core.List.{List}
use Prim.Native.Nat.{ℕ, ◌+◌, ◌-◌, ◌*◌, ◌/◌, ◌%◌, ◌^◌}
use native.Mathlib.Nat.{div-le_self}
use native.Mathlib.Omega.{arith}
use lib.ListN.{length, length-append, length-replicate}
use Rattle.numbers.specs.Lists.{sum}
use Rattle.draws.proofs.PlanLaws.{gives_map}
use Rattle.shares.specs.Sharing.{arithmetic}
use Rattle.shares.specs.Refresh.{refresh_plan}
use Rattle.shares.proofs.SharingLaws.{Shares}
use Rattle.halves.specs.Shift.{shift_plan}
use Rattle.halves.specs.ToBoolean.{to_boolean_plan}
use Rattle.halves.proofs.FloorLaws.{shift_floor, shift_draws}
use Rattle.halves.proofs.BooleanLaws.{to_boolean_keeps}
use Rattle.gate.specs.Told.{stands_for, silent}
use Rattle.gate.specs.Gadget.{silent_steps, tells}
use Rattle.demands.specs.Gadgets.{shift_gadget, to_boolean_gadget}
use Rattle.demands.proofs.RangeLaws.{shift_range_in, shift_range_out, whole_power}
use Rattle.demands.specs.Claim.{plan}
use Rattle.demands.specs.Demands.{Demands}
use Rattle.demands.specs.Unique.{Unique}
use Rattle.demands.specs.Shift.{shift_claim, to_boolean_claim}
use Rattle.demands.proofs.Answers.{width_range}
use Rattle.demands.proofs.Steps.{Steps}
use Rattle.demands.proofs.Demands.{demands}
use Rattle.demands.proofs.Unique.{unique}

shift_steps : (M t : ℕ) → Steps (shift_claim M t)
unfolding shift_gadget silent_steps
shift_steps M t =
    record {
      range =
          record {
            tested = record { in_range = shift_range_out M t; range_in = shift_range_in M t };
            positive = λ r. omega (arith, r.3);
            word = λ r. omega (arith, r.0, div-le_self M (2 ^ t));
          };
      has_fields = refl;
      opens_fields = λ x. refl;
      give = λ r n least most xs w.
          gives_map _ silent
          (shift_floor (M / 2 ^ t) t n (sum xs % M) xs (omega (arith, r.3)) (omega arith)
          (subst (λ (N : ℕ). Shares (arithmetic N) n (sum xs % M) xs) (whole_power M t r.2) (record { words = w; is = refl })))
          (λ ys a. record { opened = refl; words = a.words; recombined = a.is });
    }

to_boolean_steps : (k : ℕ) → Steps (to_boolean_claim k)
unfolding to_boolean_gadget silent_steps
to_boolean_steps k =
    record {
      range = width_range k;
      has_fields = refl;
      opens_fields = λ x. refl;
      give = λ r n least most xs w.
          gives_map _ silent (to_boolean_keeps k n (sum xs % 2 ^ k) xs r.0 (omega arith) (record { words = w; is = refl }))
          (λ ys a. record { opened = refl; words = a.words; recombined = a.is });
    }

pub shift_demands : (M t : ℕ) → Demands (shift_claim M t)
shift_demands M t = demands (shift_steps M t)

pub to_boolean_demands : (k : ℕ) → Demands (to_boolean_claim k)
to_boolean_demands k = demands (to_boolean_steps k)

pub shift_unique : (M t : ℕ) (shares tape out : List ℕ) → Unique stands_for (tells (shift_gadget M t) shares tape out)
shift_unique M t = unique (shift_gadget M t)

pub to_boolean_unique : (k : ℕ) (shares tape out : List ℕ) → Unique stands_for (tells (to_boolean_gadget k) shares tape out)
to_boolean_unique k = unique (to_boolean_gadget k)

-- t·d² + d draws a call, and (k - 1)·d² + d, for d = n - 1
pub shift_call_draws : (M t n : ℕ) → length (plan (shift_claim M t) n) ≡ t * ((n - 1) * (n - 1)) + (n - 1)
unfolding plan refresh_plan
shift_call_draws M t n = length-append (shift_plan (M / 2 ^ t) t n) _ ∙ rw (shift_draws (M / 2 ^ t) t n, length-replicate)

pub to_boolean_call_draws : (k n : ℕ) → length (plan (to_boolean_claim k) n) ≡ (k - 1) * ((n - 1) * (n - 1)) + (n - 1)
unfolding plan refresh_plan to_boolean_plan
to_boolean_call_draws k n = length-append (shift_plan 2 (k - 1) n) _ ∙ rw (shift_draws 2 (k - 1) n, length-replicate)
