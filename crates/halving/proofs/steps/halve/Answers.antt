use Rattle.halves.proofs.HalvingLaws.{halving_ran, halving_ended}
use Rattle.halving.proofs.steps.halve.Goals as goal

pub shared_parity-requires : goal.shared_parity-requires
shared_parity-requires c = c.requires.0

pub returns-in_err-parity : goal.returns-in_err-parity
returns-in_err-parity c = let a = c.args in rw c.from_residual.ensures (halving_ended a.m a.n a.shares a.tape.now a.cursor c.in_err-parity.ensures)

pub finished-requires : goal.finished-requires
finished-requires c = (c.requires.0, c.in_ok-parity.ensures.1, c.requires.1)

pub returns : goal.returns
returns c =
    let a = c.args in
    (halving_ran a.m a.n a.shares a.tape.now a.cursor c.in_ok-parity.parity.words c.finished.result c.in_ok-parity.ensures.0 c.finished.ensures.1, c.finished.ensures.0)
