use Rattle.std.proofs.Common.{ap, ◌∙◌, pow_mono, rules}
use Rattle.tape.specs.Tape.{start}
use Rattle.draws.specs.Draws.{bind, run}
use Rattle.shares.specs.Refresh.{refresh}
use Rattle.shares.specs.Sharing.{arithmetic}
use Rattle.rules.specs.ToArithmetic.{to_arithmetic}
use Rattle.gate.proofs.GadgetLaws.{closed_if_given, held, held_if_given}
use Rattle.conversions.proofs.converted.Goals as goal

pub copy_in-requires : goal.copy_in-requires
copy_in-requires c = c.requires.2.most

pub to_arithmetic-sums-requires : goal.to_arithmetic-sums-requires
to_arithmetic-sums-requires c = let (low, high, k) = c.requires in (high, held k (pow_mono {i = 1} low) c.copy_in.ensures)

pub close-requires : goal.close-requires
close-requires c = (search rules, rw c.power.ensures (held_if_given c.requires.2 _ c.to_arithmetic-sums.result _ (pow_mono {i = 1} c.requires.0) c.to_arithmetic-sums.ensures))

pub returns : goal.returns
returns c =
    let a = c.args in
    closed_if_given (to_arithmetic _) _ c.copy_in.ensures c.start.ensures (arithmetic _) _ _ _ _ c.to_arithmetic-sums.ensures c.close.ensures
    ∙ ap (λ m. run (bind (to_arithmetic a.k a.shares.now) (refresh (arithmetic m))) a.tape.now start) c.power.ensures
