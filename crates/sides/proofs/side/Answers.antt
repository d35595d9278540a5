use mathlib.Core.Path.{◌≡◌, ap, ◌∙◌}
use native.Mathlib.Omega.{arith}
use lib.ListN.{take}
use Rattle.numbers.specs.Modulo.{q}
use Rattle.params.proofs.SetLaws.{kind_laws}
use Rattle.params.proofs.RoomLaws.{rho_most}
use Rattle.draws.specs.Draws.{run}
use Rattle.shares.specs.Sharing.{arithmetic}
use Rattle.shares.proofs.ArraysLaws.{gave_as}
use Rattle.first.specs.First.{take_from_first}
use Rattle.first.proofs.FirstLaws.{taken-take}
use Rattle.halves.specs.Shift.{shift}
use Rattle.sizes.specs.Widening.{widened}
use Rattle.sizes.specs.Sides.{side}
use Rattle.sizes.proofs.SidesSteps.{bound-wide, side-held}
use Rattle.sides.proofs.side.Goals as goal
use Rattle.sides.proofs.side.Goals.{After-take_from_first-words}

first : (c : After-take_from_first-words) →
    let a = c.args in
    c.take_from_first-words.result ≡ take_from_first (widened a.bounds) a.bounds.a a.shares
first c = let a = c.args in c.take_from_first-words.ensures ∙ ap (λ m. take_from_first (arithmetic m) a.bounds.a a.shares) c.wide.ensures

pub take_from_first-words-requires : goal.take_from_first-words-requires
take_from_first-words-requires c = rw c.wide.ensures (bound-wide (kind_laws c.args.bounds), c.requires.all)

pub shift_by-requires : goal.shift_by-requires
shift_by-requires c = let l = kind_laws c.args.bounds in (omega (arith, rho_most l), omega arith, l.word, rw (first c) (side-held l c.requires))

pub returns : goal.returns
unfolding side
returns c = gave_as _ _ _ c.shift_by.ensures
    (ap (λ xs. run (shift q c.args.bounds.rho xs) c.args.tape.now c.args.cursor)
    (ap (take c.args.n) (first (goal.at.returns c).After-take_from_first-words) ∙ taken-take (widened c.args.bounds) c.args.bounds.a c.args.n _ (omega (arith, c.requires.least))))
