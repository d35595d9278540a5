use Rattle.std.proofs.Common.{pow_pos, arith, rules}
use native.Mathlib.Nat.{mul-le-mul_right}
use Rattle.shares.specs.Sharing.{arithmetic}
use Rattle.halves.specs.Shift.{shift}
use Rattle.gate.proofs.GadgetLaws.{closed_if_given, held, held_if_given}
use Rattle.shifts.proofs.shifted.Goals as goal

pub copy_in-requires : goal.copy_in-requires
copy_in-requires c = c.requires.3.most

pub shift_by-halved-requires : goal.shift_by-halved-requires
shift_by-halved-requires c = let (high, two, word, k) = c.requires in (high, two, word, held k (let l = mul-le-mul_right c.args.m (pow_pos c.args.t) in omega (arith, l, two)) c.copy_in.ensures)

pub close-requires : goal.close-requires
close-requires c = (search rules, held_if_given c.requires.3 _ c.shift_by-halved.result _ c.requires.1 c.shift_by-halved.ensures)

pub returns : goal.returns
returns c = closed_if_given (shift _ _) _ c.copy_in.ensures c.start.ensures (arithmetic _) _ _ _ _ c.shift_by-halved.ensures c.close.ensures
