use Rattle.std.proofs.Common.{rules, nat_lt, ◌∙◌}
use borrow.Author.Tests.{tests}
use Rattle.std.proofs.lemmas.Iterator.{YieldsList-from_slice}
use Rattle.std.proofs.lemmas.Iterator.Search.{all_from_yields_List}
use Rattle.checks.proofs.CheckLaws.{all_below_is}
use Rattle.checks.proofs.all_below.Goals as goal

pub returns : goal.returns
returns c = all_from_yields_List (λ x. nat_lt x c.args.m) _ _ _ c.all.ensures.ran (YieldsList-from_slice c.args.shares.now cc) (λ x b q k. search (rules, tests)) ∙ all_below_is _ _
