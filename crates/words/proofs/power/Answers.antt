use native.Mathlib.Omega.{arith}
use Rattle.words.proofs.WordLaws.{one_shl}
use Rattle.words.proofs.power.Goals as goal

pub returns : goal.returns
returns c = one_shl 32 _ (omega arith)
