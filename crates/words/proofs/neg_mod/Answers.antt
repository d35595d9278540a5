use native.Mathlib.Omega.{arith}
use Rattle.words.proofs.WordLaws.{neg_none, neg_some}
use Rattle.words.proofs.neg_mod.Goals as goal

pub returns-then-a-eq0 : goal.returns-then-a-eq0
returns-then-a-eq0 c = neg_none _ _ c.requires c.if-a-eq0.true

pub returns-else-a-eq0 : goal.returns-else-a-eq0
returns-else-a-eq0 c = neg_some c.requires (omega arith)
