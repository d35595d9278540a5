-- What sampling of a polynomial gives, over any n that leaves room and any set that has its laws: the plan.
use mathlib.Core.Path.{◌≡◌, ◌∙◌}
use mathlib.Core.List.{List}
use Prim.Native.Nat.{ℕ, ◌+◌, ◌*◌, ◌≤◌, ◌<◌}
use native.Mathlib.Omega.{arith}
use lib.ListN.{length}
use Rattle.numbers.specs.Bits.{alpha}
use Rattle.params.specs.declared.Params.{Params}
use Rattle.params.specs.Laws.{Laws}
use Rattle.draws.specs.Draws.{each}
use Rattle.draws.proofs.Outcomes.{Gives}
use Rattle.draws.proofs.PlanLaws.{gives_map, gives_rounds}
use Rattle.masks.specs.Sampling.{coefficient_plan}
use Rattle.masks.proofs.SampleGives.{coefficient_gives}
use Rattle.masks.specs.Polynomial.{filled, row, polynomial, polynomial_plan}
use Rattle.masks.proofs.RowLaws.{row_within, filled-length}

module _ {p : Params} (l : Laws p) (n : ℕ) (least : 0 < n) (room : p.mu + alpha n ≤ 32) where
  pub polynomial_gives : (out : List ℕ) → length out ≡ 256 * n → Gives (λ o. length o ≡ 256 * n) (polynomial p n out) (polynomial_plan p n)
  unfolding polynomial polynomial_plan each row
  polynomial_gives out e = gives_rounds (λ c o. length o ≡ 256 * n) (row p n) (coefficient_plan p n) 256 turn 0 256 out (omega arith) e
    where
      turn : (c : ℕ) (o : List ℕ) → c < 256 → length o ≡ 256 * n → Gives (λ r. length r ≡ 256 * n) (row p n c o) (coefficient_plan p n)
      turn c o h f =
          gives_map (λ r. length r ≡ 256 * n) (λ ys. filled (c * n) ys o) (coefficient_gives l n least room)
          (λ ys w. filled-length (c * n) ys o (omega (arith, w.size, row_within c 256 n h)) ∙ f)
