use Rattle.std.proofs.Common.{arith}
use Rattle.params.proofs.SetLaws.{kind_laws}
use Rattle.shares.proofs.ArraysLaws.{held_below, gave_as}
use Rattle.sizes.proofs.WideningSteps.{wide_two}
use Rattle.sizes.proofs.VerdictSteps.{widen_stops, sides_stop, to_zero_test}
use Rattle.verdict.proofs.tested_shares.Goals as goal

pub returns-in_err-widened : goal.returns-in_err-widened
returns-in_err-widened c = rw c.from_residual.ensures (widen_stops c.args.bounds _ _ _ c.in_err-widened.ensures)

pub sides_product-requires : goal.sides_product-requires
sides_product-requires c = held_below c.requires (wide_two (kind_laws c.args.bounds)) c.in_ok-widened.ensures.1

pub returns-in_err-product : goal.returns-in_err-product
returns-in_err-product c = rw c.from_residual-in_err-product.ensures (sides_stop c.args.bounds _ _ _ _ c.in_ok-widened.ensures.0 c.in_err-product.ensures)

pub zero_test-requires : goal.zero_test-requires
zero_test-requires c = held_below c.requires (omega arith) c.in_ok-product.ensures.1

pub returns : goal.returns
returns c = gave_as _ _ _ c.zero_test.ensures (to_zero_test c.args.bounds _ _ _ _ c.in_ok-widened.ensures.0 _ c.in_ok-product.ensures.0)
