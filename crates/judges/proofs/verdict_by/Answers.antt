use Rattle.std.proofs.Common.{◌≡◌, refl, sym, ap₂, ◌∙◌, length, take, arith}
use Rattle.tape.specs.Tape.{start}
use Rattle.draws.specs.Draws.{run}
use Rattle.gate.proofs.GadgetLaws.{held, held_given}
use Rattle.sizes.specs.Verdict.{tested}
use Rattle.judges.proofs.JudgeLaws.{judged_ended, judged_ran}
use Rattle.judges.proofs.verdict_by.Goals as goal
use Rattle.judges.proofs.verdict_by.Goals.{After-tested_shares}

-- the steps on the copy, from the tape's start, are those on the caller's shares
of_caller : (c : After-tested_shares) →
    let a = c.args in
    run (tested a.bounds (take (length a.shares.now) c.copy_in.result)) a.tape.now c.start.result ≡ run (tested a.bounds a.shares.now) a.tape.now start
of_caller c = let a = c.args in ap₂ (λ xs p. run (tested a.bounds xs) a.tape.now p) c.copy_in.ensures.first c.start.ensures

pub copy_in-requires : goal.copy_in-requires
copy_in-requires c = c.requires.most

pub tested_shares-requires : goal.tested_shares-requires
tested_shares-requires c = held c.requires (omega arith) c.copy_in.ensures

pub returns-in_default : goal.returns-in_default
returns-in_default c = c.from.ensures ∙ judged_ended c.args.bounds _ _ _ (sym (of_caller (goal.at.returns-in_default c).After-tested_shares) ∙ c.in_default.ensures)

pub opened-sum-requires : goal.opened-sum-requires
opened-sum-requires c = held_given c.requires (omega arith) c.in-Some.ensures.1

pub returns : goal.returns
returns c = judged_ran c.args.bounds _ _ _ _ (sym (of_caller (goal.at.returns c).After-tested_shares) ∙ c.in-Some.ensures.0) c.opened-sum.ensures _ refl c.verdict_of.ensures refl refl
