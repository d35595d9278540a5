use mathlib.Core.Path.{ap}
use native.Mathlib.Omega.{arith}
use lib.ListN.{set}
use Rattle.numbers.specs.Lists.{change}
use Rattle.numbers.proofs.WordsLaws.{words_at}
use Rattle.first.specs.First.{take_from_first}
use Rattle.first.proofs.take_from_first.Goals as goal

pub sub_mod-requires : goal.sub_mod-requires
sub_mod-requires c = let (l, w) = c.requires in (words_at (omega arith) w 0, l)

pub returns : goal.returns
unfolding take_from_first change
returns c = ap (set c.args.shares 0) c.sub_mod.ensures
