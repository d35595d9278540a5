use mathlib.Core.Path.{◌∙◌}
use native.Mathlib.Omega.{arith}
use Rattle.sizes.proofs.ProductSteps.{times_most, less_is}
use Rattle.product.proofs.cross_less.Goals as goal

pub overflow_mul-a : goal.overflow_mul-a
overflow_mul-a c = let h = c.requires in omega (arith, times_most h.0 h.1)

pub overflow_mul-c : goal.overflow_mul-c
overflow_mul-c c = let h = c.requires in omega (arith, times_most h.2 h.3)

pub overflow_add-a : goal.overflow_add-a
overflow_add-a c = let h = c.requires in omega (arith, times_most h.0 h.1, times_most h.2 h.3)

pub overflow_add-a-2 : goal.overflow_add-a-2
overflow_add-a-2 c = let h = c.requires in omega (arith, times_most h.0 h.1, times_most h.2 h.3)

pub returns : goal.returns
returns c = c.reduce_q.ensures ∙ less_is _ c.requires.4
