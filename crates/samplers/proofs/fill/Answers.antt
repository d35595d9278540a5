use Rattle.std.proofs.Common.{refl, sym, ap, ◌∙◌, ℕ, replicate}
use Rattle.gate.specs.Told.{refusal}
use Rattle.gate.proofs.GadgetLaws.{told_ended, told_ran}
use Rattle.samplers.proofs.fill.Goals as goal

pub returns-in_default : goal.returns-in_default
returns-in_default c = c.from.ensures _ ∙ ap (refusal 0 5) (c.clear.ensures ∙ ap (λ (m : ℕ). replicate m 0) c.out-1.given) ∙ told_ended _ _ (sym c.in_default.ensures)

pub returns : goal.returns
returns c = told_ran _ _ (sym c.in-Some.ensures) _ refl refl
