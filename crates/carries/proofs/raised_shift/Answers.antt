use mathlib.Core.Path.{◌≡◌, ap, ◌∙◌}
use Prim.Native.Nat.{◌-◌, ◌*◌, ◌^◌, ◌<◌}
use native.Mathlib.Omega.{arith}
use lib.ListN.{take}
use Rattle.draws.specs.Draws.{run}
use Rattle.shares.specs.Sharing.{arithmetic}
use Rattle.shares.proofs.ArraysLaws.{gave_as}
use Rattle.first.specs.First.{add_to_first}
use Rattle.halves.specs.Shift.{shift}
use Rattle.halves.specs.Carries.{raised_shift}
use Rattle.halves.proofs.CarrySteps.{raised-held, raised-take}
use Rattle.carries.proofs.raised_shift.Goals as goal
use Rattle.carries.proofs.raised_shift.Goals.{After-add_to_first-words}

first : (c : After-add_to_first-words) →
    let a = c.args in
    c.add_to_first-words.result ≡ add_to_first (arithmetic (2 ^ a.t * a.m)) (a.n - 1) a.floors
first c = let a = c.args in c.add_to_first-words.ensures ∙ ap (λ p. add_to_first (arithmetic (p * a.m)) (a.n - 1) a.floors) c.power.ensures

pub overflow_mul-power : goal.overflow_mul-power
overflow_mul-power c = let h : c.power.result * c.args.m < 2 ^ 32 = rw c.power.ensures c.requires.2 in
    omega arith

pub add_to_first-words-requires : goal.add_to_first-words-requires
add_to_first-words-requires c = let p = c.requires in rw c.power.ensures (omega (arith, p.3, p.4.least), p.4.all)

pub shift_by-requires : goal.shift_by-requires
shift_by-requires c = let p = c.requires in (p.0, p.1, p.2, rw (first c) (raised-held p.4 p.3))

pub returns : goal.returns
unfolding raised_shift
returns c = gave_as _ _ _ c.shift_by.ensures
    (ap (λ xs. run (shift c.args.m c.args.t xs) c.args.tape.now c.args.cursor) (ap (take c.args.n) (first (goal.at.returns c).After-add_to_first-words) ∙ raised-take c.requires.4 c.requires.3))
