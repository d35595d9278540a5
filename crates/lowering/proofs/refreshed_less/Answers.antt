use Rattle.std.proofs.Common.{◌≡◌, sym, ◌∙◌, arith, get_or}
use Rattle.numbers.proofs.WordsLaws.{words_same}
use Rattle.draws.proofs.DrawnLaws.{draw_below}
use Rattle.shares.specs.Sharing.{arithmetic}
use Rattle.shares.proofs.ArraysLaws.{held_at}
use Rattle.shares.proofs.TurnLaws.{writing_words, writing_none, writing_more, remaining_ended}
use Rattle.first.specs.First.{take_from_first}
use Rattle.lowering.proofs.LessLaws.{less_first, less_other, less-held, less-start}
use Rattle.lowering.proofs.refreshed_less.Goals as goal
use Rattle.lowering.proofs.refreshed_less.Goals.{then-i-eq0, else-i-eq0, Joined-i-eq0}

-- what turn i reads
read : (c : Joined-i-eq0) →
    let a = c.args in
    c.if-i-eq0.x ≡ get_or (take_from_first (arithmetic a.m) a.offset a.given.words) c.loop-i.i 0
read c =
    let h = c.requires.1 in
    elim c.if-i-eq0.branch [
      | then-i-eq0 w ↦ w.x-is ∙ c.sub_mod-first.ensures ∙ sym (less_first _ _ _ _ h _ (omega (arith, w.if-i-eq0.true)))
      | else-i-eq0 w ↦ w.x-is ∙ sym (less_other _ _ _ _ h _ (omega (arith, w.if-i-eq0.false)))
    ]

pub sub_mod-first-requires : goal.sub_mod-first-requires
sub_mod-first-requires c = (held_at c.requires.1 _, c.requires.0)

pub loop-i-init : goal.loop-i-init
loop-i-init c = less-start _ _ _ _ c.requires.1 c.requires.0 (words_same (omega (arith, c.requires.1.two))) _ _

pub returns-in_default : goal.returns-in_default
returns-in_default c = remaining_ended c.loop-i.invariant.left c.loop-i-test.true c.in_default.ensures

pub add_mod-requires : goal.add_mod-requires
add_mod-requires c = (rw (read c) (held_at (less-held (arithmetic _) _ _ _ c.requires.1 c.requires.0) _), draw_below _ _ c.in-Some.ensures)

pub sub_mod-last_share-requires : goal.sub_mod-last_share-requires
sub_mod-last_share-requires c = (c.loop-i.invariant.left.below, draw_below _ _ c.in-Some.ensures)

pub loop-i-preserved : goal.loop-i-preserved
loop-i-preserved c =
    writing_more c.loop-i.invariant c.loop-i-test.true c.in-Some.ensures (rw (read (goal.at.loop-i-preserved c).Joined-i-eq0) at c.add_mod.ensures) c.sub_mod-last_share.ensures

pub returns : goal.returns
returns c = let a = c.loop-i.invariant in (writing_none a c.loop-i-test.false, writing_words a)
