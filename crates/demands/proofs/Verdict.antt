-- The verdict meets the three demands, its answers are unique, and how many draws it makes.
use mathlib.Core.Path.{◌≡◌, sym, ap, ◌∙◌}
use mathlib.Core.List.{List, ◌++◌}
use Prim.Native.Nat.{ℕ, ◌+◌, ◌-◌, ◌*◌, ◌/◌, ◌^◌, ◌<◌}
use native.Mathlib.Omega.{arith}
use lib.ListN.{length, get_or, length-append, length-replicate}
use Rattle.numbers.specs.Modulo.{q}
use Rattle.numbers.specs.Bits.{alpha}
use Rattle.params.specs.declared.Bounds.{Bounds}
use Rattle.shares.specs.Sharing.{arithmetic}
use Rattle.shares.specs.Refresh.{refresh_plan}
use Rattle.halves.specs.Shift.{shift_plan}
use Rattle.halves.proofs.FloorLaws.{shift_draws}
use Rattle.gate.specs.Told.{Told, judged_stands_for}
use Rattle.gate.specs.Judge.{judges}
use Rattle.sizes.specs.Widening.{widen_plan}
use Rattle.sizes.specs.Product.{product_plan}
use Rattle.sizes.specs.ZeroTest.{scales_plan}
use Rattle.sizes.specs.Sides.{sides_plan}
use Rattle.sizes.specs.Verdict.{front_plan, verdict_plan}
use Rattle.sizes.proofs.ZeroLaws.{scales_length}
use Rattle.gate.specs.declared.Judged.{Judged}
use Rattle.demands.specs.Gadgets.{verdict_gadget}
use Rattle.demands.specs.Demands.{VerdictDemands}
use Rattle.demands.specs.Unique.{UniqueAnswer}
use Rattle.demands.proofs.VerdictSteps.{on_judged, no_room}
use Rattle.demands.proofs.Scalars.{verdict_settings}
use Rattle.demands.proofs.Refusals.{refusals}
use Rattle.demands.proofs.Values.{values}

pub verdict_demands : (set kind : ℕ) → VerdictDemands set kind
verdict_demands set kind =
    record {
      refusals = λ shares tape. refusals (on_judged set kind shares) tape;
      values = λ shares tape. values (on_judged set kind shares) tape;
      settings = verdict_settings set kind;
      no_2 = no_room set kind;
    }

-- its answer shows all that it stands for
pub verdict_unique : (set kind : ℕ) (shares tape : List ℕ) → UniqueAnswer judged_stands_for (judges (verdict_gadget set kind) shares tape)
unfolding judged_stands_for
verdict_unique set kind shares tape r s e h = ap answer (e ∙ sym h)
  where
    answer : Told → Judged
    answer t = record { number = t.number; verdict = get_or t.others 0 0; opened = get_or t.others 1 0; used = t.used }

-- (α + 1 + 2ρ)·d² + d + n·d/2 + n² draws a call, for d = n - 1: of any ρ
pub plan_draws : (ρ n : ℕ) → 0 < n →
    length ((shift_plan (2 ^ ρ) (alpha n + 1) n ++ (shift_plan q ρ n ++ (shift_plan q ρ n ++ (refresh_plan (arithmetic q) n ++ product_plan q n)))) ++ scales_plan q n n)
    ≡ (alpha n + 1 + 2 * ρ) * ((n - 1) * (n - 1)) + (n - 1) + n * (n - 1) / 2 + n * n
unfolding refresh_plan product_plan
plan_draws ρ n few =
    let d : ℕ = (n - 1) * (n - 1) in
    let sides : List ℕ = shift_plan q ρ n ++ (shift_plan q ρ n ++ (refresh_plan (arithmetic q) n ++ product_plan q n)) in
    let widened : length (shift_plan (2 ^ ρ) (alpha n + 1) n) ≡ (alpha n + 1) * d = shift_draws (2 ^ ρ) (alpha n + 1) n in
    let side : length (shift_plan q ρ n) ≡ ρ * d = shift_draws q ρ n in
    rw (
      length-append (shift_plan (2 ^ ρ) (alpha n + 1) n ++ sides) (scales_plan q n n),
      length-append (shift_plan (2 ^ ρ) (alpha n + 1) n) sides,
      length-append (shift_plan q ρ n) (shift_plan q ρ n ++ (refresh_plan (arithmetic q) n ++ product_plan q n)),
      length-append (shift_plan q ρ n) (refresh_plan (arithmetic q) n ++ product_plan q n),
      length-append (refresh_plan (arithmetic q) n) (product_plan q n),
      widened,
      side,
      length-replicate (n - 1) q,
      length-replicate (n * (n - 1) / 2) q,
      scales_length few q n,
    )
    (omega arith)

pub verdict_call_draws : (bounds : Bounds) (n : ℕ) → 0 < n → length (verdict_plan bounds n) ≡ (alpha n + 1 + 2 * bounds.rho) * ((n - 1) * (n - 1)) + (n - 1) + n * (n - 1) / 2 + n * n
unfolding verdict_plan front_plan sides_plan widen_plan
verdict_call_draws bounds n few = plan_draws bounds.rho n few
