use Rattle.std.proofs.Common.{arith}
use Rattle.rules.proofs.NineLaws.{zero_held, zero_gave}
use Rattle.convert.proofs.rule.to_arithmetic.Goals as goal

pub rule-requires : goal.rule-requires
rule-requires c = let p = c.requires in (p.0, omega (arith, p.1.least), zero_held _ p.1 c.with_zero-words.ensures)

pub returns : goal.returns
returns c = zero_gave _ c.requires.1 c.with_zero-words.ensures _ _ _ c.rule.ensures
