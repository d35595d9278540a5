use Rattle.std.proofs.Common.{[], is_some, ◌*◌, sym, ap, ◌∙◌, length}
use Rattle.params.specs.declared.Params.{Params}
use Rattle.params.specs.Sets.{known}
use Rattle.params.proofs.SetLaws.{known_is, set_is}
use Rattle.tape.specs.Tape.{start}
use Rattle.draws.specs.Draws.{run}
use Rattle.checks.proofs.CheckLaws.{AllPassed, all_checked, range_checked}
use Rattle.gate.proofs.GadgetLaws.{sampler_refused, sampler_ran}
use Rattle.masks.specs.Polynomial.{polynomial}
use Rattle.demands.specs.Gadgets.{polynomial_sampler}
use Rattle.samplers.proofs.sample_polynomial.Goals as goal
use Rattle.samplers.proofs.sample_polynomial.Goals.{In-Ok}

good : (c : In-Ok) → let a = c.args in AllPassed a.n (length a.out.now) (256 * a.n) (known a.set) []
good c = all_checked _ _ _ _ _ (range_checked _ _ _ _ c.in-Ok.ensures.passes (ap is_some c.of_set.ensures ∙ known_is c.args.set))

pub fill-requires : goal.fill-requires
fill-requires c = let g = good (goal.at.fill-requires c).In-Ok in (g.least, g.most, g.fits)

pub returns-in-Ok : goal.returns-in-Ok
unfolding polynomial_sampler
returns-in-Ok c =
    let a = c.args in
    sampler_ran _ _ _ _ (range_checked _ _ _ _ c.in-Ok.ensures.passes (ap is_some c.of_set.ensures ∙ known_is a.set)) c.fill.ensures
    (ap (λ (p : Params). run (polynomial p a.n a.out.now) a.tape.now start) (set_is a.set (sym c.of_set.ensures ∙ c.in-Ok.ensures.is)))

pub returns-in-Err : goal.returns-in-Err
unfolding polynomial_sampler
returns-in-Err c = sampler_refused _ _ _ _ _ (range_checked _ _ _ _ c.in-Err.ensures (ap is_some c.of_set.ensures ∙ known_is c.args.set)) (c.from.ensures _)
