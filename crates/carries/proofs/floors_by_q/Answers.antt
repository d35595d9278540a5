use Rattle.std.proofs.Common.{rules, ◌*◌, ◌/◌}
use Rattle.numbers.specs.Modulo.{q}
use Rattle.numbers.proofs.MadeLaws.{made_along}
use Rattle.carries.proofs.floors_by_q.Goals as goal

pub returns : goal.returns
returns c = made_along (λ i x. x * c.args.c / q) _ (λ i y f k. search rules) c.requires.size c.from_fn.ensures.items
