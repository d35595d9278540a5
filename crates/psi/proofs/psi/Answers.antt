use Rattle.std.proofs.Common.{◌%◌, ap₂}
use Rattle.numbers.specs.Modulo.{xor}
use Rattle.rules.specs.Psi.{psi}
use Rattle.rules.proofs.ListLaws.{wraps}
use Rattle.psi.proofs.psi.Goals as goal

pub returns : goal.returns
unfolding psi xor
returns c = ap₂ (λ x y. x % y) (wraps _ c.ranges.u.fits) c.power.ensures
