use Rattle.std.proofs.Common.{rules}
use Rattle.numbers.proofs.MadeLaws.{mapped}
use Rattle.rules.specs.Psi.{psi, psis}
use Rattle.psi.proofs.psis.Goals as goal

pub returns : goal.returns
unfolding psis
returns c = mapped (psi c.args.k c.args.x) (λ y z f e. search rules) _ _ (search rules) c.map.ensures.items
