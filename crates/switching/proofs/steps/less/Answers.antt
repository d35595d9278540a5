use borrow.Author.Rules.{rules}
use mathlib.Core.Path.{ap, ◌∙◌}
use Prim.Native.Nat.{◌+◌, ◌-◌, ◌*◌, ◌%◌, ◌<◌, ◌^◌}
use native.Mathlib.Omega.{arith}
use Rattle.masks.proofs.SwitchSteps.{less_fits, less_is}
use Rattle.switching.proofs.steps.less.Goals as goal
use Rattle.switching.proofs.steps.less.Goals.{After-power}

fits : (c : After-power) → let a = c.args in a.x + c.power.result * (a.m - a.e) < 2 ^ 64
fits c = less_fits _ c.requires.0 c.power.ensures (search rules) (search rules)

pub overflow_mul-power : goal.overflow_mul-power
overflow_mul-power c = let h = fits c in omega arith

pub overflow_add-x : goal.overflow_add-x
overflow_add-x c = let h = fits c in omega arith

pub returns : goal.returns
returns c =
    let a = c.args in
    c.reduce.ensures ∙ ap (λ p. (a.x + p * (a.m - a.e)) % a.m) c.power.ensures ∙ less_is _ _ _ _ c.requires.2
