use Rattle.std.proofs.Common.{rules, get_or}
use Rattle.numbers.proofs.MadeLaws.{made_at}
use Rattle.shares.proofs.ArraysLaws.{copied}
use Rattle.copies.proofs.copy_in.Goals as goal

pub returns : goal.returns
returns c = let made = c.from_fn.ensures.items in copied c.requires made.long (made_at (λ j. get_or c.args.shares.now j 0) (λ i y q k. search rules) _ made)
