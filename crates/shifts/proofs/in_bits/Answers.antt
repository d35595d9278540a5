use Rattle.std.proofs.Common.{pow_mono, rules}
use Rattle.shares.specs.Sharing.{boolean}
use Rattle.halves.specs.ToBoolean.{to_boolean}
use Rattle.gate.proofs.GadgetLaws.{closed_if_given, held, held_if_given}
use Rattle.shifts.proofs.in_bits.Goals as goal

pub copy_in-requires : goal.copy_in-requires
copy_in-requires c = c.requires.2.most

pub to_boolean-bits-requires : goal.to_boolean-bits-requires
to_boolean-bits-requires c = let (low, high, k) = c.requires in (low, high, held k (pow_mono {i = 1} low) c.copy_in.ensures)

pub close-requires : goal.close-requires
close-requires c = (search rules, held_if_given c.requires.2 _ c.to_boolean-bits.result _ (pow_mono {i = 1} c.requires.0) c.to_boolean-bits.ensures)

pub returns : goal.returns
returns c = closed_if_given (to_boolean _) _ c.copy_in.ensures c.start.ensures (boolean _) _ _ _ _ c.to_boolean-bits.ensures c.close.ensures
