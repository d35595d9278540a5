use mathlib.Core.Path.{sym, ap, ap₂, ◌∙◌}
use mathlib.Core.Bool.{true}
use mathlib.Core.List.{List, [], ◌∷◌}
use Prim.Native.Nat.{ℕ, ◌*◌, ◌^◌, ◌<◌}
use native.Mathlib.Omega.{arith}
use lib.ListN.{take}
use Rattle.numbers.proofs.WordsLaws.{words_head, words_tail}
use Rattle.tape.specs.Tape.{ran}
use Rattle.halves.proofs.HalvingsLaws.{gathered_two, take_two, words_two, words_eight, halved_fits, halved_start, halved_bits, halved_words, halved_gathered_words, halved_shares, halved_gathered, halved_held, halved_ended, halved_more}
use Rattle.two.proofs.of_two.Goals as goal

pub power-requires : goal.power-requires
power-requires c = omega (arith, halved_fits c.args.m c.args.t c.requires.0 c.requires.1)

pub overflow_mul-modulus : goal.overflow_mul-modulus
overflow_mul-modulus c = let h : c.power.result * c.args.m < 2 ^ 32 = rw c.power.ensures c.requires.1 in
    omega arith

pub loop-b-init : goal.loop-b-init
loop-b-init c = halved_start _ _ _ c.requires.0 (ap (λ (k : ℕ). k * c.args.m) c.power.ensures) c.requires.1 c.requires.2

pub gathered_word-u-requires : goal.gathered_word-u-requires
gathered_word-u-requires c = (omega (arith, halved_fits c.args.m c.args.t c.requires.0 c.requires.1, c.loop-b-test.true), words_head c.loop-b.invariant.below)

pub gathered_word-v-requires : goal.gathered_word-v-requires
gathered_word-v-requires c = (omega (arith, halved_fits c.args.m c.args.t c.requires.0 c.requires.1, c.loop-b-test.true), words_head (words_tail c.loop-b.invariant.below))

pub halve_two-requires : goal.halve_two-requires
halve_two-requires c = let l = c.loop-b.invariant in
    let h = (halved_held l c.loop-b-test.true).all in
    (words_head h, words_head (words_tail h), omega (arith, l.word))

pub returns-in_err-halved : goal.returns-in_err-halved
returns-in_err-halved c = rw c.from_residual.ensures (halved_ended c.loop-b.invariant c.loop-b-test.true c.in_err-halved.ensures)

pub loop-b-preserved : goal.loop-b-preserved
loop-b-preserved c = let a = c.loop-b in
    let l = a.invariant in
    let r = c.in_ok-halved.halved in
    let (e, b) = c.in_ok-halved.ensures in
    halved_more l c.loop-b-test.true (e ∙ ap (λ (xs : List ℕ). ran xs r.cursor) (sym (take_two r.words (omega (arith, b.size)))))
    (words_two (omega (arith, (halved_held l c.loop-b-test.true).two)) b)
    (ap₂ (λ (u v : ℕ). u ∷ v ∷ []) c.gathered_word-u.ensures c.gathered_word-v.ensures ∙ gathered_two c.args.gathers a.b a.first a.second a.u a.v)

pub gathered_word-first-requires : goal.gathered_word-first-requires
gathered_word-first-requires c = (halved_fits c.args.m c.args.t c.requires.0 c.requires.1, words_head (halved_bits c.loop-b.invariant c.loop-b-test.false))

pub gathered_word-second-requires : goal.gathered_word-second-requires
gathered_word-second-requires c = (halved_fits c.args.m c.args.t c.requires.0 c.requires.1, words_head (words_tail (halved_bits c.loop-b.invariant c.loop-b-test.false)))

pub returns-then-gathers : goal.returns-then-gathers
returns-then-gathers c = let l = c.loop-b.invariant in
    let h = c.loop-b-test.false in
    let e = ap₂ (λ (u v : ℕ). u ∷ v ∷ []) c.gathered_word-first.ensures c.gathered_word-second.ensures ∙ gathered_two true _ _ _ _ _ in
    (halved_gathered l h c.if-gathers.true ∙ ap (λ (xs : List ℕ). ran (take 2 xs) c.loop-b.cur) (sym e), words_eight (rw e (halved_gathered_words l h c.if-gathers.true)))

pub returns-else-gathers : goal.returns-else-gathers
returns-else-gathers c = let l = c.loop-b.invariant in
    let h = c.loop-b-test.false in
    (halved_shares l h c.if-gathers.false, words_eight (halved_words l h c.if-gathers.false))
