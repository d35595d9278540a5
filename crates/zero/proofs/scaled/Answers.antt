use Rattle.std.proofs.Common.{rules, ◌*◌, ◌%◌}
use Rattle.numbers.specs.Modulo.{q}
use Rattle.numbers.proofs.MadeLaws.{mapped}
use Rattle.sizes.specs.ZeroTest.{scaled}
use Rattle.zero.proofs.scaled.Goals as goal

pub returns : goal.returns
unfolding scaled
returns c = mapped (λ x. x * c.args.c % q) (λ x y f k. search rules) _ _ (search rules) c.map.ensures.items
