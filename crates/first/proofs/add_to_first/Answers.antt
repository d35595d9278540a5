use mathlib.Core.Path.{ap}
use native.Mathlib.Omega.{arith}
use lib.ListN.{set}
use Rattle.numbers.specs.Lists.{change}
use Rattle.numbers.proofs.WordsLaws.{words_at}
use Rattle.first.specs.First.{add_to_first}
use Rattle.first.proofs.add_to_first.Goals as goal

pub add_mod-requires : goal.add_mod-requires
add_mod-requires c = let (l, w) = c.requires in (words_at (omega arith) w 0, l)

pub returns : goal.returns
unfolding add_to_first change
returns c = ap (set c.args.shares 0) c.add_mod.ensures
