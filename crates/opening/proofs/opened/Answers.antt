use Rattle.std.proofs.Common.{arith}
use Rattle.numbers.proofs.WordsLaws.{words_take, words_at}
use Rattle.opening.proofs.OpeningLaws.{opening_start, opening_below, opening_more, opening_all}
use Rattle.opening.proofs.opened.Goals as goal

pub loop-share-init : goal.loop-share-init
loop-share-init c = opening_start _ _

pub add_mod-sum-requires : goal.add_mod-sum-requires
add_mod-sum-requires c =
    let p = c.requires in
    (opening_below c.loop-share.invariant (omega (arith, p.two)), words_at (omega (arith, p.two)) (words_take c.args.n p.most p.all) _)

pub loop-share-preserved : goal.loop-share-preserved
loop-share-preserved c = opening_more c.loop-share.invariant c.loop-share-test.true c.add_mod-sum.ensures

pub returns : goal.returns
returns c = opening_all c.loop-share.invariant c.loop-share-test.false
