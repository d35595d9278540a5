-- Boolean to arithmetic, mod 2^k and mod q, meets the three demands, its answers are unique, and how many draws it makes.
use mathlib.Core.Path.{◌≡◌, refl, ◌∙◌}
use mathlib.Core.List.{List}
use Prim.Native.Nat.{ℕ, ◌+◌, ◌-◌, ◌*◌, ◌^◌, ◌≤◌, ◌<◌}
use native.Mathlib.Nat.{mod-eq_of_lt}
use native.Mathlib.Omega.{arith}
use lib.ListN.{length, length-append, length-replicate}
use lib.Pow.{pow_mono}
use Rattle.numbers.specs.Modulo.{q}
use Rattle.numbers.specs.Bits.{alpha}
use Rattle.numbers.specs.Lists.{xor_all}
use Rattle.numbers.proofs.GroupLaws.{xors}
use Rattle.numbers.proofs.FoldLaws.{fold_below}
use Rattle.params.proofs.RoomLaws.{alpha_most}
use Rattle.draws.proofs.PlanLaws.{gives_map}
use Rattle.shares.specs.Refresh.{refresh_plan}
use Rattle.halves.specs.Shift.{shift_plan}
use Rattle.halves.proofs.FloorLaws.{shift_draws}
use Rattle.rules.specs.ToArithmetic.{to_arithmetic_plan}
use Rattle.rules.proofs.ArithmeticGives.{draws_fit, to_arithmetic_keeps}
use Rattle.masks.specs.ToModulus.{to_modulus_plan}
use Rattle.masks.proofs.ModulusGives.{to_modulus_keeps}
use Rattle.gate.specs.Told.{stands_for, silent}
use Rattle.gate.specs.Gadget.{silent_steps, tells}
use Rattle.demands.specs.Gadgets.{to_arithmetic_gadget, to_mod_q_gadget}
use Rattle.demands.specs.Claim.{plan}
use Rattle.demands.specs.Demands.{Demands}
use Rattle.demands.specs.Unique.{Unique}
use Rattle.demands.specs.Convert.{to_arithmetic_claim, to_mod_q_claim}
use Rattle.demands.proofs.Answers.{number_range, width_range}
use Rattle.demands.proofs.Steps.{Steps}
use Rattle.demands.proofs.Demands.{demands}
use Rattle.demands.proofs.Unique.{unique}

to_arithmetic_steps : (k : ℕ) → Steps (to_arithmetic_claim k)
unfolding to_arithmetic_gadget silent_steps
to_arithmetic_steps k =
    record {
      range = width_range k;
      has_fields = refl;
      opens_fields = λ x. refl;
      give = λ r n least most xs w.
          gives_map _ silent (to_arithmetic_keeps k n (xor_all xs) xs (omega (arith, r.1)) (omega arith) (record { words = w; is = refl }))
          (λ ys a. record { opened = refl; words = a.words; recombined = a.is });
    }

to_mod_q_steps : (μ : ℕ) → Steps (to_mod_q_claim μ)
unfolding to_mod_q_gadget silent_steps xor_all
to_mod_q_steps μ =
    record {
      range = number_range 20 μ q (omega arith) (λ h. omega arith);
      has_fields = refl;
      opens_fields = λ x. refl;
      give = λ r n least most xs w.
          let below : xor_all xs < 2 ^ μ = fold_below (xors μ) xs w in
          let wide : 2 ^ μ ≤ 2 ^ 20 = pow_mono r.1 in
          gives_map _ silent (to_modulus_keeps q μ n (xor_all xs) xs (omega arith) (omega (arith, r.1, alpha_most n most)) (omega arith) (record { words = w; is = refl }))
          (λ ys a. record { opened = refl; words = a.words; recombined = a.is ∙ mod-eq_of_lt (omega arith) });
    }

pub to_arithmetic_demands : (k : ℕ) → Demands (to_arithmetic_claim k)
to_arithmetic_demands k = demands (to_arithmetic_steps k)

pub to_mod_q_demands : (μ : ℕ) → Demands (to_mod_q_claim μ)
to_mod_q_demands μ = demands (to_mod_q_steps μ)

pub to_arithmetic_unique : (k : ℕ) (shares tape out : List ℕ) → Unique stands_for (tells (to_arithmetic_gadget k) shares tape out)
to_arithmetic_unique k = unique (to_arithmetic_gadget k)

pub to_mod_q_unique : (μ : ℕ) (shares tape out : List ℕ) → Unique stands_for (tells (to_mod_q_gadget μ) shares tape out)
to_mod_q_unique μ = unique (to_mod_q_gadget μ)

-- 3·2^d − 3 draws a call, and with mod q α·d² more, for d = n - 1
pub to_arithmetic_call_draws : (k n : ℕ) → 0 < n → length (plan (to_arithmetic_claim k) n) ≡ 3 * 2 ^ (n - 1) - 3
unfolding plan refresh_plan to_arithmetic_plan
to_arithmetic_call_draws k n h =
    length-append (to_arithmetic_plan k n) _ ∙ rw (length-replicate (3 * 2 ^ (n - 1) - n - 2) (2 ^ k), length-replicate (n - 1)) (omega (arith, draws_fit (n - 1)))

pub to_mod_q_call_draws : (μ n : ℕ) → 0 < n → length (plan (to_mod_q_claim μ) n) ≡ 3 * 2 ^ (n - 1) - 3 + alpha n * ((n - 1) * (n - 1))
unfolding plan refresh_plan to_modulus_plan to_arithmetic_plan
to_mod_q_call_draws μ n h =
    length-append (to_modulus_plan q μ n) _
    ∙ rw (length-append (to_arithmetic_plan (μ + alpha n) n) (shift_plan q (alpha n) n), shift_draws q (alpha n) n, length-replicate (3 * 2 ^ (n - 1) - n - 2) (2 ^ (μ + alpha n)), length-replicate (n - 1))
    (omega (arith, draws_fit (n - 1)))
