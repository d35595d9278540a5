use mathlib.Core.Path.{refl, ap, ◌∙◌}
use Prim.Native.Nat.{ℕ, ◌*◌, ◌/◌, ◌^◌, ◌≤◌, ◌<◌}
use native.Mathlib.Omega.{arith}
use lib.ListN.{take}
use Rattle.numbers.specs.Modulo.{q}
use Rattle.draws.specs.Draws.{run}
use Rattle.shares.proofs.ArraysLaws.{gave_as}
use Rattle.halves.specs.Carries.{raised_shift, carries}
use Rattle.halves.proofs.CarrySteps.{floors-held, floors-take, scaled_small}
use Rattle.carries.proofs.carries_by_q.Goals as goal
use Rattle.carries.proofs.carries_by_q.Goals.{Start}

two : (s : Start) → 2 ≤ 2 ^ s.args.t * s.args.m
two s = omega (arith, s.requires.3, s.requires.5.least)

small : (s : Start) (x : ℕ) → x < q → x * s.args.c / q < 2 ^ s.args.t * s.args.m
small s = scaled_small s.args.c q (omega (arith, two s)) s.requires.4

pub floors_by_q-requires : goal.floors_by_q-requires
floors_by_q-requires c = c.requires.5.all

pub raised_shift-requires : goal.raised_shift-requires
raised_shift-requires c = let p = c.requires in
    (p.0, p.1, p.2, p.3, rw c.floors_by_q.ensures (floors-held (λ x. x * c.args.c / q) c.args.c q (λ x. refl) (small (goal.at.raised_shift-requires c).Start) (two (goal.at.raised_shift-requires c).Start) p.5))

pub returns : goal.returns
unfolding carries
returns c = gave_as _ _ _ c.raised_shift.ensures
    (ap (λ fs. run (raised_shift c.args.m c.args.t fs) c.args.tape.now c.args.cursor)
    (ap (take c.args.n) c.floors_by_q.ensures ∙ floors-take (λ x. x * c.args.c / q) c.args.c q (λ x. refl) (small (goal.at.returns c).Start) (two (goal.at.returns c).Start) c.requires.5))
