use Rattle.std.proofs.Common.{◌<◌, ◌^◌, ◌+◌, inr, subst, arith, rules, tests, length, Option, List}
use Rattle.std.specs.Iterator.{Yields}
use Rattle.std.specs.Iterator.Runs.{YieldsRun, EachRunFrom, Trigger}
use Rattle.std.proofs.lemmas.Iterator.{YieldsList, YieldsList-from_slice}
use Rattle.std.proofs.lemmas.Iterator.Adapters.{at_most_from_yields_List, YieldsList-from_flat_map}
use Rattle.selftest.proofs.before_wrong.Goals as goal

-- a chain that gives a list of a length that fits
fits : {S A B : Type 0} {steps : S → Option A → S → Type 0} {v : A → B} {s : S} {all : List B} → YieldsList steps v s all → length all < 2 ^ 64 → EachRunFrom steps s (λ p. Trigger (2 ^ 64) → 0 + p.len < 2 ^ 64)
unfolding YieldsRun
fits {steps = steps} {all = all} road few = λ p _ at _.
    let most = at_most_from_yields_List {n = length all} road (omega arith) in
    omega (arith, p.long, most.runs p.items _ (subst (λ u. Yields steps u p.items p.gave.0.0) at p.gave.0.1), few)

pub position-requires-clause-fits : goal.position-requires-clause-fits
position-requires-clause-fits c =
    inr (fits (YieldsList-from_flat_map _ _ _ (λ y. y.now) (λ y. y.now) _ (λ x u q k. (search (rules, tests), λ j b. YieldsList-from_slice _ (search (rules, tests)))) (YieldsList-from_slice c.args.groups.now cc) (cc) (cc) (cc) cc) c.requires)
