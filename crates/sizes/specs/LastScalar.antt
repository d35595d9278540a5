-- Which draw of a verdict is set anew (demand 3): that of the last scalar, which is the last draw below q − 1.
use Rattle.std.specs.Prelude.{Bool, true, List, [], ◌∷◌, ◌++◌, ℕ, ◌-◌}
use Rattle.numbers.specs.Modulo.{q}
use Rattle.params.specs.declared.Bounds.{Bounds}
use Rattle.draws.specs.Anew.{marks_after}
use Rattle.sizes.specs.ZeroTest.{scales_plan}
use Rattle.sizes.specs.Verdict.{front_plan}

-- of what comes before the zero test and of all its turns but the last no draw is marked, and of the last turn the first draw alone
unfoldable pub last_scalar_marks : Bounds → ℕ → List Bool
last_scalar_marks bounds n = marks_after (front_plan bounds n ++ scales_plan q n (n - 1)) (true ∷ [])
