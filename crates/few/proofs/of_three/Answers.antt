use Rattle.std.proofs.Common.{◌≡◌, refl, ◌^◌}
use Rattle.numbers.specs.Modulo.{xor}
use Rattle.tape.specs.Tape.{ran, draw_at}
use Rattle.rules.proofs.RuleLaws.{draw_ended, drew, refresh_three, refresh_ended, three_gave}
use Rattle.few.proofs.of_three.Goals as goal
use Rattle.few.proofs.of_three.Goals.{In-Some}

-- the first draw, below m, is one below 2^k
first : (c : In-Some) → ran c.in-Some.r c.in-Some.next ≡ draw_at c.args.tape.now c.args.cursor (2 ^ c.args.k)
first c = rw c.power-m.ensures at c.in-Some.ensures

pub draw-requires : goal.draw-requires
draw-requires c = rw c.power-m.ensures c.requires.1.two

pub returns-in_default : goal.returns-in_default
returns-in_default c = refresh_ended _ refl _ _ _ (draw_ended (refresh_three _ _ _ _ _ _) (rw c.power-m.ensures at c.in_default.ensures))

pub draw-requires-2 : goal.draw-requires-2
draw-requires-2 c = rw c.power-m.ensures c.requires.1.two

pub returns-in_default-draw : goal.returns-in_default-draw
returns-in_default-draw c =
    refresh_ended _ refl _ _ _ (draw_ended (drew (refresh_three _ _ _ _ _ _) (first (goal.at.returns-in_default-draw c).In-Some)) (rw c.power-m.ensures at c.in_default-draw.ensures))

pub returns : goal.returns
unfolding xor
returns c =
    three_gave _ _ _ _ c.requires.1.all
    (drew (drew (refresh_three _ _ _ _ _ _) (first (goal.at.returns c).In-Some)) (rw c.power-m.ensures at c.in-Some-draw.ensures))
    c.psi.ensures c.psi-2.ensures refl refl
