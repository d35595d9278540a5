use borrow.Author.Rules.{rules}
use Rattle.copies.proofs.CopyLaws.{writing_start, writing_more, writing_all}
use Rattle.copies.proofs.copy_out.Goals as goal

pub loop-i-init : goal.loop-i-init
loop-i-init c = writing_start

pub loop-i-preserved : goal.loop-i-preserved
loop-i-preserved c =
    writing_more c.loop-i.invariant c.put.ensures

pub returns : goal.returns
returns c = writing_all c.loop-i.invariant (search rules) (search rules)
