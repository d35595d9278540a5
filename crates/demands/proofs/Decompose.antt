-- Decompose meets the three demands, its answers are unique, and how many draws it makes.
use mathlib.Core.Path.{◌≡◌, refl, ◌∙◌}
use mathlib.Core.List.{List}
use Prim.Native.Nat.{ℕ, ◌+◌, ◌-◌, ◌*◌, ◌%◌}
use native.Mathlib.Omega.{arith}
use lib.ListN.{length, get_or, length-append, length-replicate}
use Rattle.numbers.specs.Modulo.{q}
use Rattle.numbers.specs.Bits.{alpha}
use Rattle.numbers.specs.Lists.{sum}
use Rattle.params.specs.Sets.{Known, params_of}
use Rattle.params.proofs.SetLaws.{set_laws}
use Rattle.params.proofs.RoomLaws.{half_least}
use Rattle.parts.specs.Remainder.{Remainder}
use Rattle.parts.proofs.PlainLaws.{remainder_is}
use Rattle.draws.proofs.PlanLaws.{gives_as}
use Rattle.shares.specs.Sharing.{arithmetic}
use Rattle.shares.specs.Refresh.{refresh_plan}
use Rattle.halves.specs.Shift.{shift_plan}
use Rattle.halves.proofs.FloorLaws.{shift_draws}
use Rattle.gate.specs.Gadget.{tells}
use Rattle.parts.specs.Decompose.{high_plan}
use Rattle.parts.proofs.DecomposeGives.{decompose_gives}
use Rattle.demands.specs.Gadgets.{decompose_gadget}
use Rattle.gate.specs.Told.{parts_stand_for}
use Rattle.demands.specs.Claim.{plan}
use Rattle.demands.specs.Demands.{Demands}
use Rattle.demands.specs.Unique.{Unique}
use Rattle.demands.specs.Decompose.{decompose_claim}
use Rattle.demands.proofs.Answers.{set_tested}
use Rattle.demands.proofs.Steps.{Steps}
use Rattle.demands.proofs.Demands.{demands}
use Rattle.demands.proofs.Unique.{unique_by}

decompose_steps : (set : ℕ) → Steps (decompose_claim set)
unfolding decompose_gadget
decompose_steps set =
    record {
      range =
          record {
            tested = set_tested set;
            positive = λ r. omega arith;
            word = λ r. omega arith;
          };
      has_fields = refl;
      opens_fields = λ x. refl;
      give = λ r n least most xs w.
          gives_as (λ o a. record { opened = a.opened; words = a.low.words; recombined = a.low.is })
          (decompose_gives (set_laws (params_of set)) n (sum xs % q) xs (omega arith) (record { words = w; is = refl }));
    }

-- the plain function is FIPS 204's: its r0 is the remainder in −γ2 < r0 ≤ γ2
pub decompose-remainder : {set : ℕ} → Known set → (r : ℕ) → Remainder (params_of set).gamma2 r
decompose-remainder {set} k r = remainder_is _ r (half_least (set_laws (params_of set)))

pub decompose_demands : (set : ℕ) → Demands (decompose_claim set)
decompose_demands set = demands (decompose_steps set)

-- its answer has the high part beside the number and the words used
pub decompose_unique : (set : ℕ) (shares tape out : List ℕ) → Unique parts_stand_for (tells (decompose_gadget set) shares tape out)
unfolding parts_stand_for
decompose_unique set shares tape out =
    unique_by parts_stand_for (λ t. record { number = t.number; high = get_or t.others 0 0; used = t.used }) (λ t. t.out) (λ r filled. refl) (λ r filled. refl)
    (tells (decompose_gadget set) shares tape out)

-- (23 + α)·d² + 2d draws a call, for d = n - 1
pub decompose_call_draws : (set n : ℕ) → length (plan (decompose_claim set) n) ≡ (23 + alpha n) * ((n - 1) * (n - 1)) + 2 * (n - 1)
unfolding plan refresh_plan high_plan decompose_gadget
decompose_call_draws set n =
    length-append (high_plan (params_of set) n) _
    ∙ rw (length-append (shift_plan (params_of set).delta (23 + alpha n) n) (refresh_plan (arithmetic (params_of set).delta) n), shift_draws (params_of set).delta (23 + alpha n) n, length-replicate (n - 1) (params_of set).delta, length-replicate (n - 1) q)
    (omega arith)
