use borrow.Author.Rules.{rules}
use Prim.Native.Nat.{◌^◌, ◌<◌}
use native.Mathlib.Omega.{arith}
use Rattle.numbers.proofs.WordsLaws.{words_at, words_same}
use Rattle.halves.proofs.CarrySteps.{taking_start, taking_more, taking_all}
use Rattle.sizes.proofs.WideningSteps.{multiple_below, share_below}
use Rattle.widening.proofs.without_carries.Goals as goal

pub loop-i-init : goal.loop-i-init
loop-i-init c =
    let (f, least, few, w, v) = c.requires in
    taking_start (omega (arith, w.size)) (omega arith) (words_same (omega arith))

pub returns-then-i-n : goal.returns-then-i-n
returns-then-i-n c = taking_all c.loop-i.invariant (omega (arith, c.if-i-n.true))

pub overflow_mul-carries : goal.overflow_mul-carries
overflow_mul-carries c =
    let (f, least, few, w, v) = c.requires in
    let h = multiple_below f (words_at (omega arith) v c.loop-i.i) in
    let word : c.args.m < 2 ^ 32 = search rules in
    omega arith

pub sub_mod-requires : goal.sub_mod-requires
sub_mod-requires c =
    let (f, least, few, w, v) = c.requires in
    (share_below f least (words_at (omega arith) w _), multiple_below f (words_at (omega arith) v _))

pub loop-i-preserved : goal.loop-i-preserved
loop-i-preserved c = taking_more c.loop-i.invariant c.loop-i-test.true c.if-i-n.false c.sub_mod.ensures

pub returns : goal.returns
returns c = taking_all c.loop-i.invariant (omega (arith, c.requires.2, c.loop-i-test.false))
