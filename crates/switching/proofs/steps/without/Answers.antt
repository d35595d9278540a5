use borrow.Author.Rules.{rules}
use native.Mathlib.Omega.{arith}
use Rattle.numbers.proofs.WordsLaws.{words_at, words_same}
use Rattle.halves.proofs.CarrySteps.{taking_start, taking_more, taking_all}
use Rattle.switching.proofs.steps.without.Goals as goal

pub loop-i-init : goal.loop-i-init
loop-i-init c = let two = c.requires.1 in taking_start (search rules) (omega arith) (words_same (omega arith))

pub returns-then-i-n : goal.returns-then-i-n
returns-then-i-n c = taking_all c.loop-i.invariant (omega (arith, c.if-i-n.true))

pub less-requires : goal.less-requires
less-requires c = let (k, two, _, w) = c.requires in (k, two, words_at (omega arith) w _)

pub loop-i-preserved : goal.loop-i-preserved
loop-i-preserved c = taking_more c.loop-i.invariant c.loop-i-test.true c.if-i-n.false c.less.ensures

pub returns : goal.returns
returns c = taking_all c.loop-i.invariant (omega (arith, c.requires.2, c.loop-i-test.false))
