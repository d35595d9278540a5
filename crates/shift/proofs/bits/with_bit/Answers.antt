use Rattle.std.proofs.Common.{rules, ◌+◌, ◌*◌, ◌%◌, ◌^◌, get_or}
use Rattle.numbers.proofs.MadeLaws.{made_along}
use Rattle.halves.specs.ToBoolean.{with_bit}
use Rattle.shift.proofs.bits.with_bit.Goals as goal

pub returns : goal.returns
unfolding with_bit
returns c = let a = c.args in made_along (λ i x. x + 2 ^ a.b * (get_or a.shares i 0 % 2)) _ (λ i y f k. search rules) (search rules) c.from_fn.ensures.items
