use Rattle.std.proofs.Common.{rules}
use Rattle.numbers.specs.Modulo.{neg_mod}
use Rattle.numbers.proofs.MadeLaws.{made_along}
use Rattle.shares.specs.Sharing.{negated}
use Rattle.sides.proofs.negated.Goals as goal

pub returns : goal.returns
unfolding negated
returns c = made_along (λ i x. neg_mod c.args.m x) _ (λ i y f k. search rules) c.requires.size c.from_fn.ensures.items
