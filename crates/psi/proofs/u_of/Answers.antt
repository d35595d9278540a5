use Rattle.std.proofs.Common.{rules, get_or, drop}
use Rattle.numbers.proofs.MadeLaws.{made_at}
use Rattle.shares.proofs.ArraysLaws.{copied}
use Rattle.psi.proofs.u_of.Goals as goal

pub returns : goal.returns
returns c = let made = c.from_fn.ensures.items in copied (search rules) made.long (made_at (λ j. get_or (drop 1 c.args.shares) j 0) (λ i y f k. search rules) _ made)
