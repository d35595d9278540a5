use Rattle.std.proofs.Common.{◌≡◌, sym, ap, ◌∙◌, length}
use Rattle.numbers.specs.Modulo.{q}
use Rattle.params.specs.Sets.{kind_of}
use Rattle.params.proofs.SetLaws.{bounds_are}
use Rattle.tape.specs.Tape.{start}
use Rattle.draws.specs.Draws.{run}
use Rattle.checks.proofs.CheckLaws.{Passed, all_passed}
use Rattle.gate.proofs.GadgetLaws.{judge_checks_lem, judge_refused, judge_ran}
use Rattle.sizes.specs.Verdict.{verdict}
use Rattle.demands.specs.Gadgets.{kind_range, verdict_gadget}
use Rattle.demands.proofs.Answers.{kind_checked}
use Rattle.judges.proofs.verdict.Goals as goal
use Rattle.judges.proofs.verdict.Goals.{In-Ok}

good : (c : In-Ok) → let a = c.args in Passed a.shares.now (length a.shares.now) (kind_range a.set a.kind) q
good c = all_passed _ _ _ _ (kind_checked _ _ _ _ _ c.bounds.ensures c.in-Ok.ensures.passes)

-- the bounds are those of the set and the kind
found : (c : In-Ok) → c.in-Ok.bounds ≡ kind_of c.args.set c.args.kind
found c = (bounds_are _ _ (sym c.bounds.ensures ∙ c.in-Ok.ensures.is)).1

pub verdict_by-requires : goal.verdict_by-requires
verdict_by-requires c = (good c).ready

pub returns-in-Ok : goal.returns-in-Ok
unfolding verdict_gadget
returns-in-Ok c =
    let a = c.args in
    judge_ran _ a.shares.now a.tape.now (sym (judge_checks_lem (verdict_gadget a.set a.kind) a.shares.now) ∙ kind_checked _ _ _ _ _ c.bounds.ensures c.in-Ok.ensures.passes) c.verdict_by.ensures
    (ap (λ k. run (verdict k a.shares.now) a.tape.now start) (found (goal.at.returns-in-Ok c).In-Ok))

pub returns-in-Err : goal.returns-in-Err
unfolding verdict_gadget
returns-in-Err c =
    let a = c.args in
    judge_refused _ a.shares.now a.tape.now _ (sym (judge_checks_lem (verdict_gadget a.set a.kind) a.shares.now) ∙ kind_checked _ _ _ _ _ c.bounds.ensures c.in-Err.ensures) c.from.ensures
