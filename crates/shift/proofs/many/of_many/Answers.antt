use mathlib.Core.Path.{ap}
use Prim.Native.Nat.{ℕ, ◌*◌, ◌^◌, ◌<◌}
use native.Mathlib.Omega.{arith}
use Rattle.halves.proofs.HalvingsLaws.{halved_fits, halved_start, halved_bits, halved_words, halved_gathered_words, halved_shares, halved_gathered, halved_held, halved_ended, halved_more}
use Rattle.shift.proofs.many.of_many.Goals as goal

pub power-requires : goal.power-requires
power-requires c = omega (arith, halved_fits c.args.m c.args.t c.requires.0 c.requires.1)

pub overflow_mul-modulus : goal.overflow_mul-modulus
overflow_mul-modulus c = let h : c.power.result * c.args.m < 2 ^ 32 = rw c.power.ensures c.requires.1 in
    omega arith

pub loop-b-init : goal.loop-b-init
loop-b-init c = halved_start _ _ _ c.requires.0 (ap (λ (k : ℕ). k * c.args.m) c.power.ensures) c.requires.1 c.requires.2

pub gathered-more-requires : goal.gathered-more-requires
gathered-more-requires c = (omega (arith, halved_fits c.args.m c.args.t c.requires.0 c.requires.1, c.loop-b-test.true), c.loop-b.invariant.below)

pub halve-requires : goal.halve-requires
halve-requires c = let l = c.loop-b.invariant in (halved_held l c.loop-b-test.true, omega (arith, l.word))

pub returns-in_err-given : goal.returns-in_err-given
returns-in_err-given c = rw c.from_residual.ensures (halved_ended c.loop-b.invariant c.loop-b-test.true c.in_err-given.ensures)

pub loop-b-preserved : goal.loop-b-preserved
loop-b-preserved c = let (e, w) = c.in_ok-given.ensures in halved_more c.loop-b.invariant c.loop-b-test.true e w c.gathered-more.ensures

pub with_bit-all-requires : goal.with_bit-all-requires
with_bit-all-requires c = (halved_fits c.args.m c.args.t c.requires.0 c.requires.1, halved_bits c.loop-b.invariant c.loop-b-test.false)

pub returns-then-gathers : goal.returns-then-gathers
returns-then-gathers c = let l = c.loop-b.invariant in
    let h = c.loop-b-test.false in
    (rw c.with_bit-all.ensures (halved_gathered l h c.if-gathers.true), rw c.with_bit-all.ensures (halved_gathered_words l h c.if-gathers.true))

pub returns-else-gathers : goal.returns-else-gathers
returns-else-gathers c = let l = c.loop-b.invariant in
    let h = c.loop-b-test.false in
    (halved_shares l h c.if-gathers.false, halved_words l h c.if-gathers.false)
