use Rattle.std.proofs.Common.{rules, ◌/◌, ◌^◌}
use Rattle.numbers.proofs.MadeLaws.{mapped}
use Rattle.switching.proofs.steps.quotients.Goals as goal

pub returns : goal.returns
returns c = mapped (λ x. x / 2 ^ c.args.mu) (λ x y f k. search rules) _ _ (search rules) c.map.ensures.items
