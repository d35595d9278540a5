use Rattle.std.proofs.Common.{◌≡◌, sym, ap, ◌∙◌, ℕ, List, take, arith, rules}
use Rattle.tape.specs.Tape.{Ran}
use Rattle.draws.specs.Draws.{run}
use Rattle.shares.specs.Sharing.{negated}
use Rattle.shares.proofs.ArraysLaws.{held_of, held_below, gave_as}
use Rattle.shares.proofs.NegatedLaws.{negated-take, negated_words}
use Rattle.sizes.specs.Widening.{wide}
use Rattle.sizes.specs.Sides.{side}
use Rattle.sizes.proofs.SidesSteps.{left_ended, right_ended, fresh_ended, to_product}
use Rattle.sides.proofs.sides_product.Goals as goal
use Rattle.sides.proofs.sides_product.Goals.{After-negated, After-side-2}

negative : (c : After-negated) → let a = c.args in c.negated.result ≡ negated (wide a.bounds) a.shares
negative c = let a = c.args in c.negated.ensures ∙ ap (λ m. negated m a.shares) c.wide.ensures

-- the side of the negated shares
right : (c : After-side-2) (x : Ran (List ℕ)) →
    let a = c.args in
    run (side a.bounds (take a.n c.negated.result)) a.tape.now c.in_ok-left.left.cursor ≡ x →
    run (side a.bounds (negated (wide a.bounds) (take a.n a.shares))) a.tape.now c.in_ok-left.left.cursor ≡ x
right c x e =
    let a = c.args in
    sym (ap (λ xs. run (side a.bounds xs) a.tape.now c.in_ok-left.left.cursor) (ap (take a.n) (negative (goal.at.After-side-2 c).After-negated) ∙ negated-take (wide a.bounds) a.n a.shares)) ∙ e

pub returns-in_err-left : goal.returns-in_err-left
returns-in_err-left c = rw c.from_residual.ensures (left_ended c.args.bounds _ _ _ c.in_err-left.ensures)

pub negated-requires : goal.negated-requires
negated-requires c = rw c.wide.ensures c.requires.all

pub side-requires-2 : goal.side-requires-2
side-requires-2 c =
    rw (negative (goal.at.side-requires-2 c).After-negated) (held_of c.requires (negated_words (wide c.args.bounds) (omega (arith, c.requires.two)) c.requires.all))

pub returns-in_err-right : goal.returns-in_err-right
returns-in_err-right c =
    rw c.from_residual-in_err-right.ensures (right_ended c.args.bounds _ _ _ _ c.in_ok-left.ensures.0 (right (goal.at.returns-in_err-right c).After-side-2 _ c.in_err-right.ensures))

pub refresh-requires : goal.refresh-requires
refresh-requires c = (search rules, (search rules, held_below c.requires (omega arith) c.in_ok-left.ensures.1))

pub returns-in_err-fresh : goal.returns-in_err-fresh
returns-in_err-fresh c =
    rw c.from_residual-in_err-fresh.ensures
    (fresh_ended c.args.bounds _ _ _ _ c.in_ok-left.ensures.0 _ (right (goal.at.returns-in_err-fresh c).After-side-2 _ c.in_ok-right.ensures.0) c.in_err-fresh.ensures)

pub product-requires : goal.product-requires
product-requires c = (held_below c.requires (omega arith) c.in_ok-fresh.ensures.1, c.in_ok-right.ensures.1)

pub returns : goal.returns
returns c =
    gave_as _ _ _ c.product.ensures
    (to_product c.args.bounds _ _ _ _ c.in_ok-left.ensures.0 _ (right (goal.at.returns c).After-side-2 _ c.in_ok-right.ensures.0) _ c.in_ok-fresh.ensures.0)
