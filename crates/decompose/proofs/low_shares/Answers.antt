use native.Mathlib.Omega.{arith}
use Rattle.params.proofs.SetLaws.{set_laws}
use Rattle.params.proofs.RoomLaws.{half_below, multiple_below}
use Rattle.parts.specs.Decompose.{low_shares}
use Rattle.decompose.proofs.low_shares.Goals as goal

pub overflow_mul-p : goal.overflow_mul-p
overflow_mul-p c = omega (arith, half_below (set_laws c.args.p))

pub overflow_mul-p-2 : goal.overflow_mul-p-2
overflow_mul-p-2 c = let h = multiple_below (set_laws c.args.p) c.requires.0 in omega arith

pub take_from_first-requires : goal.take_from_first-requires
take_from_first-requires c = let p = c.requires in (multiple_below (set_laws c.args.p) p.0, p.1)

pub returns : goal.returns
unfolding low_shares
returns c = c.take_from_first.ensures
