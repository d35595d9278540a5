use Rattle.std.proofs.Common.{rules, ◌*◌, ◌%◌, get_or}
use Rattle.numbers.specs.Modulo.{q}
use Rattle.numbers.proofs.MadeLaws.{made_along}
use Rattle.sizes.specs.Product.{begun}
use Rattle.product.proofs.begun.Goals as goal

pub returns : goal.returns
unfolding begun
returns c = made_along (λ i x. x * get_or c.args.r i 0 % q) _ (λ i y f k. search rules) (search rules) c.from_fn.ensures.items
