use Rattle.std.proofs.Common.{rules, arith}
use Rattle.numbers.proofs.WordsLaws.{words_at, words_same}
use Rattle.halves.proofs.ParityLaws.{signing_start, signing_more, signing_all}
use Rattle.halving.proofs.parity.join.Goals as goal

pub loop-i-init : goal.loop-i-init
loop-i-init c = signing_start (search rules)

pub returns-then-i-n : goal.returns-then-i-n
returns-then-i-n c = let (w, _, two, p) = c.requires in
    signing_all c.loop-i.invariant (omega (arith, c.if-i-n.true)) two p w (words_same (omega arith))

pub joined-requires : goal.joined-requires
joined-requires c = let (w, _, two, p) = c.requires in (words_at (omega arith) w _, two, p)

pub loop-i-preserved : goal.loop-i-preserved
loop-i-preserved c = signing_more c.loop-i.invariant c.loop-i-test.true c.if-i-n.false c.joined.ensures

pub returns : goal.returns
returns c = let (w, most, two, p) = c.requires in
    signing_all c.loop-i.invariant (omega (arith, most, c.loop-i-test.false)) two p w (words_same (omega arith))
