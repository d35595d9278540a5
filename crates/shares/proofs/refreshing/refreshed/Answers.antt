use Rattle.std.proofs.Common.{◌≡◌, arith}
use Rattle.numbers.proofs.WordsLaws.{words_same}
use Rattle.tape.specs.Tape.{ran, draw_at}
use Rattle.draws.proofs.DrawnLaws.{draw_below}
use Rattle.shares.specs.Sharing.{bound}
use Rattle.shares.proofs.ArraysLaws.{held_at}
use Rattle.shares.proofs.TurnLaws.{writing_start, writing_words, writing_none, writing_more, remaining_ended}
use Rattle.shares.proofs.refreshing.refreshed.Goals as goal
use Rattle.shares.proofs.refreshing.refreshed.Goals.{In-Some}

drawn : (g : _) (c : In-Some g) → ran c.in-Some.r c.in-Some.next ≡ draw_at c.args.tape.now c.loop-i.cur (bound (g.K.ShareKind.kind c.args.kind))
drawn g c = rw c.bound-bound.ensures at c.in-Some.ensures

pub loop-i-init : goal.loop-i-init
loop-i-init g c = writing_start _ _ _ _ _ _ _ c.requires (words_same (omega (arith, c.requires.two)))

pub returns-in_default : goal.returns-in_default
returns-in_default g c = remaining_ended c.loop-i.invariant.left c.loop-i-test.true (rw c.bound-bound.ensures at c.in_default.ensures)

pub plus-requires : goal.plus-requires
plus-requires g c = (held_at c.requires _, draw_below _ _ (drawn g (goal.at.plus-requires g c).In-Some))

pub minus-last_share-requires : goal.minus-last_share-requires
minus-last_share-requires g c = (c.loop-i.invariant.left.below, draw_below _ _ (drawn g (goal.at.minus-last_share-requires g c).In-Some))

pub loop-i-preserved : goal.loop-i-preserved
loop-i-preserved g c =
    writing_more c.loop-i.invariant c.loop-i-test.true (drawn g (goal.at.loop-i-preserved g c).In-Some) c.plus.ensures c.minus-last_share.ensures

pub returns : goal.returns
returns g c = let a = c.loop-i.invariant in (writing_none a c.loop-i-test.false, writing_words a)
