use mathlib.Core.Path.{◌≡◌, sym, ◌∙◌}
use Prim.Native.Nat.{◌*◌, ◌<◌}
use native.Mathlib.Omega.{arith}
use lib.ListN.{get_or, take}
use Rattle.numbers.proofs.GroupLaws.{sub_small}
use Rattle.numbers.proofs.WordsLaws.{words_take, words_same}
use Rattle.halves.specs.Halving.{less}
use Rattle.halves.proofs.HalvingLaws.{less_words}
use Rattle.halves.proofs.FinishLaws.{less_at, finishing_start, finishing_more, finishing_all}
use Rattle.halving.proofs.steps.finished.Goals as goal
use Rattle.halving.proofs.steps.finished.Goals.{After-sub_mod-d}

-- what is subtracted is a share of A
difference : (c : After-sub_mod-d) →
    let a = c.args in
    c.sub_mod-d.result ≡ get_or (less (2 * a.m) (take a.n a.a) (take a.n a.shares)) c.loop-i.i 0
difference c =
    let h = c.requires.0 in
    c.sub_mod-d.ensures ∙ sym (less_at _ _ _ _ _ c.loop-i.invariant.most (omega (arith, h.most, h.all.size)))

below : (c : After-sub_mod-d) → c.sub_mod-d.result < 2 * c.args.m
below c =
    let h : 0 < 2 * c.args.m = omega (arith, c.requires.0.two) in
    rw c.sub_mod-d.ensures (sub_small _ _ _ h)

pub loop-i-init : goal.loop-i-init
loop-i-init c = let h = c.requires.0 in finishing_start (omega (arith, h.two)) (omega (arith, h.least)) (words_same (omega (arith, h.two)))

pub sub_mod-d-requires : goal.sub_mod-d-requires
sub_mod-d-requires c =
    (c.requires.0.all.below _ c.loop-i-test.true, c.requires.1.below _ c.loop-i-test.true)

pub add_mod-requires : goal.add_mod-requires
add_mod-requires c = (below (goal.at.add_mod-requires c).After-sub_mod-d, c.loop-i.invariant.below)

pub returns-then-i-n : goal.returns-then-i-n
returns-then-i-n c =
    let h = c.requires.0 in
    finishing_all c.loop-i.invariant h.most c.if-i-n.true (difference (goal.at.returns-then-i-n c).After-sub_mod-d) c.add_mod.ensures (omega (arith, h.two))
    (less_words (omega (arith, h.two)) (words_take _ h.most c.requires.1) (words_take _ h.most h.all))

pub add_mod-sum-requires : goal.add_mod-sum-requires
add_mod-sum-requires c =
    (c.loop-i.invariant.below, omega (arith, c.requires.0.two))

pub loop-i-preserved : goal.loop-i-preserved
loop-i-preserved c =
    finishing_more c.loop-i.invariant c.requires.0.most (omega (arith, c.loop-i.invariant.most, c.if-i-n.false)) (difference (goal.at.loop-i-preserved c).After-sub_mod-d) (below (goal.at.loop-i-preserved c).After-sub_mod-d) c.add_mod-sum.ensures

pub returns : goal.returns
returns c = absurd (omega (arith, c.loop-i.invariant.most, c.requires.0.most, c.loop-i-test.false))
