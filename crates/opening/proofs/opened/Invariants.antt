use Rattle.opening.proofs.OpeningLaws.{Opening}
use Rattle.opening.proofs.opened.Given as goal

abbrev pub invariant-loop-share : goal.invariant-loop-share
invariant-loop-share l = Opening l.m l.share-items l.share-index l.sum
