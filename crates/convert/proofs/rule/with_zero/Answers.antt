use Rattle.std.proofs.Common.{rules, get_or}
use Rattle.numbers.proofs.MadeLaws.{made_at}
use Rattle.shares.proofs.ArraysLaws.{copied}
use Rattle.convert.proofs.rule.with_zero.Goals as goal

pub returns : goal.returns
returns c = let made = c.from_fn.ensures.items in copied (search rules) made.long (made_at (λ j. get_or c.args.words j 0) (λ i y f k. search rules) _ made)
