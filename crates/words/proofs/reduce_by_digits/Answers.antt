use borrow.Author.Rules.{rules}
use native.Mathlib.Omega.{arith}
use native.Mathlib.Nat.{mod-lt}
use Rattle.numbers.specs.Modulo.{add_mod}
use Rattle.words.proofs.WordLaws.{digits_start, digits_below, digits_more, digits_all}
use Rattle.words.proofs.reduce_by_digits.Goals as goal

pub loop-i-init : goal.loop-i-init
loop-i-init c = digits_start _ _ (search rules)

pub add_mod-requires : goal.add_mod-requires
add_mod-requires c = let l = digits_below c.loop-i.invariant (omega (arith, c.requires)) in (l, l)

pub add_mod-r-requires : goal.add_mod-r-requires
unfolding add_mod
add_mod-r-requires c =
    let p = c.requires in
    (rw c.add_mod.ensures (mod-lt _ (omega (arith, p))), omega (arith, p))

pub loop-i-preserved : goal.loop-i-preserved
loop-i-preserved c = digits_more c.loop-i.invariant c.loop-i-test.true c.add_mod.ensures c.add_mod-r.ensures

pub returns : goal.returns
returns c = digits_all c.loop-i.invariant c.loop-i-test.false
