use mathlib.Core.Path.{ap, ◌∙◌}
use native.Mathlib.Omega.{arith}
use lib.Seq.{get_or-set_other}
use Rattle.numbers.specs.Modulo.{q, add_mod}
use Rattle.numbers.proofs.WordsLaws.{words_at}
use Rattle.numbers.proofs.GroupLaws.{sub_small}
use Rattle.sizes.proofs.ProductSteps.{crossed_stored}
use Rattle.product.proofs.crossed.Goals as goal

pub add_mod-requires : goal.add_mod-requires
add_mod-requires c = let (l, h, v, w, x, y) = c.requires in (words_at (omega arith) w _, v)

pub cross_less-requires : goal.cross_less-requires
cross_less-requires c = let (l, h, v, w, x, y) = c.requires in (words_at (omega arith) x _, words_at (omega arith) y _, words_at (omega arith) x _, words_at (omega arith) y _, v)

pub add_mod-requires-2 : goal.add_mod-requires-2
add_mod-requires-2 c = let (l, h, v, w, x, y) = c.requires in
    (rw (get_or-set_other c.args.shares c.args.i c.args.j _ 0 (omega (arith, l))) (words_at (omega arith) w _), rw c.cross_less.ensures (sub_small q _ _ (omega arith)))

pub returns : goal.returns
returns c = crossed_stored q _ _ _ _ _ _ c.add_mod.ensures (c.add_mod-2.ensures ∙ ap (add_mod q _) c.cross_less.ensures)
