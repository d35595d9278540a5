use Rattle.std.proofs.Common.{pow_mono, arith, rules}
use Rattle.params.proofs.RoomLaws.{alpha_most, q_room}
use Rattle.shares.specs.Sharing.{arithmetic}
use Rattle.masks.specs.ToModulus.{to_modulus}
use Rattle.gate.proofs.GadgetLaws.{closed_if_given, held, held_if_given}
use Rattle.conversions.proofs.switched.Goals as goal

pub copy_in-requires : goal.copy_in-requires
copy_in-requires c = c.requires.2.most

pub to_modulus-sums-requires : goal.to_modulus-sums-requires
to_modulus-sums-requires c =
    let (low, high, k) = c.requires in
    (omega (arith, alpha_most _ k.most, high), omega arith, q_room _ k.most, held k (pow_mono {i = 1} low) c.copy_in.ensures)

pub close-requires : goal.close-requires
close-requires c = (search rules, held_if_given c.requires.2 _ c.to_modulus-sums.result _ (omega arith) c.to_modulus-sums.ensures)

pub returns : goal.returns
returns c = closed_if_given (to_modulus _ _) _ c.copy_in.ensures c.start.ensures (arithmetic _) _ _ _ _ c.to_modulus-sums.ensures c.close.ensures
