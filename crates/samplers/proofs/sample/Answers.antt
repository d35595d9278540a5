use Rattle.std.proofs.Common.{[], is_some, ◌*◌, sym, ap, ◌∙◌, ℕ, length, arith}
use native.Mathlib.Nat.{one-mul}
use Rattle.params.specs.declared.Params.{Params}
use Rattle.params.specs.Sets.{known}
use Rattle.params.proofs.SetLaws.{known_is, set_is}
use Rattle.tape.specs.Tape.{start}
use Rattle.draws.specs.Draws.{run}
use Rattle.shares.specs.Arrays.{shared}
use Rattle.checks.proofs.CheckLaws.{AllPassed, all_checked, range_checked}
use Rattle.gate.proofs.GadgetLaws.{sampler_refused, sampler_ran}
use Rattle.masks.specs.Sampling.{coefficient}
use Rattle.demands.specs.Gadgets.{sampler}
use Rattle.samplers.proofs.sample.Goals as goal
use Rattle.samplers.proofs.sample.Goals.{In-Ok}

good : (c : In-Ok) → let a = c.args in AllPassed a.n (length a.out.now) (1 * a.n) (known a.set) []
good c = all_checked _ _ _ _ _ (range_checked _ _ _ _ c.in-Ok.ensures.passes (ap is_some c.of_set.ensures ∙ known_is c.args.set))

pub sampled-requires : goal.sampled-requires
sampled-requires c = let g = good c in (g.least, g.most)

pub finish-requires : goal.finish-requires
finish-requires c = let g = good (goal.at.finish-requires c).In-Ok in omega (arith, g.fits, g.most)

pub returns-in-Ok : goal.returns-in-Ok
unfolding sampler
returns-in-Ok c =
    let a = c.args in
    let g = good (goal.at.returns-in-Ok c).In-Ok in
    sampler_ran _ _ _ _ (range_checked _ _ _ _ c.in-Ok.ensures.passes (ap is_some c.of_set.ensures ∙ known_is a.set)) c.finish.ensures
    (ap (λ (j : ℕ). shared j c.sampled.result) (g.fits ∙ one-mul a.n) ∙ c.sampled.ensures
    ∙ ap (λ (p : Params). run (coefficient p a.n) a.tape.now start) (set_is a.set (sym c.of_set.ensures ∙ c.in-Ok.ensures.is)))

pub returns-in-Err : goal.returns-in-Err
unfolding sampler
returns-in-Err c = sampler_refused _ _ _ _ _ (range_checked _ _ _ _ c.in-Err.ensures (ap is_some c.of_set.ensures ∙ known_is c.args.set)) (c.from.ensures _)
