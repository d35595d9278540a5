use mathlib.Core.List.{[], ◌∷◌}
use Rattle.draws.specs.Draws.{run}
use Rattle.halves.specs.Halvings.{halvings}
use Rattle.halves.proofs.HalvingsLaws.{Halved}
use Rattle.two.proofs.of_two.Given as goal

abbrev pub invariant-loop-b : goal.invariant-loop-b
invariant-loop-b l = Halved 2 2 l.gathers l.m l.t l.tape (run (halvings l.gathers l.m l.t (l.initial.first ∷ l.initial.second ∷ [])) l.tape l.initial.cur) l.b (l.first ∷ l.second ∷ []) (l.u ∷ l.v ∷ []) l.modulus l.cur
