-- The draws of a verdict, in two parts.
use mathlib.Core.Path.{◌≡◌, sym, ap, ◌∙◌}
use mathlib.Core.List.{List, ◌++◌}
use Prim.Native.Nat.{ℕ}
use lib.ListN.{length, drop}
use lib.Seq.{drop-append_seam}
use Rattle.numbers.specs.Modulo.{q}
use Rattle.params.specs.declared.Bounds.{Bounds}
use Rattle.draws.proofs.Outcomes.{Fits}
use Rattle.draws.proofs.PlanLaws.{fits_split, FitBoth, fits_length}
use Rattle.sizes.specs.ZeroTest.{scales_plan}
use Rattle.sizes.specs.Verdict.{front_plan, verdict_plan}

-- the draws of a verdict are those before the zero test, and its own
pub verdict_parts : (bounds : Bounds) (n : ℕ) (rs : List ℕ) → Fits (verdict_plan bounds n) rs → FitBoth (front_plan bounds n) (scales_plan q n n) rs
unfolding verdict_plan
verdict_parts bounds n rs f = fits_split (front_plan bounds n) f

pub drop_front : {ms cs : List ℕ} (ds : List ℕ) → Fits ms cs → drop (length ms) (cs ++ ds) ≡ ds
drop_front {ms} {cs} ds f = ap (λ (m : ℕ). drop m (cs ++ ds)) (sym (fits_length f)) ∙ drop-append_seam cs ds
