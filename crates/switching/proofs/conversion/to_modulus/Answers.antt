use Rattle.std.proofs.Common.{◌≡◌, sym, ap, ◌∙◌, List, ℕ}
use Prim.Native.Nat.{◌+◌, ◌*◌, ◌/◌, ◌^◌, ◌≤◌}
use native.Mathlib.Nat.{le_trans, mul-le-mul_left}
use native.Mathlib.Omega.{arith}
use lib.ListN.{length, take}
use lib.Pow.{pow_mono}
use Rattle.numbers.proofs.BitsLaws.{alpha_smallest}
use Rattle.numbers.proofs.WordsLaws.{words_up}
use Rattle.draws.specs.Draws.{run}
use Rattle.tape.specs.Tape.{Ran}
use Rattle.numbers.specs.Lists.{along}
use Rattle.shares.specs.Arrays.{Held}
use Rattle.shares.proofs.ArraysLaws.{held_below}
use Rattle.halves.specs.Carries.{raised_shift, carries}
use Rattle.halves.proofs.CarrySteps.{floors-held, floors-take}
use Rattle.masks.proofs.SwitchSteps.{quotient_small, quotient_is}
use Rattle.masks.proofs.SwitchLaws.{convert_ended, carries_ended, switched}
use Rattle.switching.proofs.conversion.to_modulus.Goals as goal
use Rattle.switching.proofs.conversion.to_modulus.Goals.{After-alpha-a, In_ok-converted}

fit : (c : After-alpha-a) → c.args.n ≤ length c.args.shares
fit c = omega (arith, c.requires.3.most, c.requires.3.all.size)

short : (c : After-alpha-a) → c.args.mu + c.alpha-a.result ≤ 31
short c = rw c.alpha-a.ensures c.requires.0

wider : (c : After-alpha-a) → let mu = c.args.mu in 2 ^ mu ≤ 2 ^ (mu + c.alpha-a.result)
wider c = pow_mono (omega arith)

two : (c : After-alpha-a) → 2 ≤ 2 ^ (c.args.mu + c.alpha-a.result)
two c = le_trans c.requires.3.two (wider c)

-- n - 1 is below the modulus of the shift
enough : (c : After-alpha-a) → c.args.n ≤ 2 ^ c.alpha-a.result * c.args.modulus
enough c =
    let l : c.args.n ≤ 2 ^ c.alpha-a.result = rw c.alpha-a.ensures (alpha_smallest c.args.n).holds in
    omega (arith, mul-le-mul_left (2 ^ c.alpha-a.result) c.requires.1)

room : (c : After-alpha-a) → 2 ≤ 2 ^ c.alpha-a.result * c.args.modulus
room c = omega (arith, enough c, c.requires.3.least)

-- what the conversion mod 2^k gave
held_x : (c : In_ok-converted) →
    Held 8 c.args.n (2 ^ (c.args.mu + c.alpha-a.result)) c.in_ok-converted.converted.words
held_x c = held_below c.requires.3 (two (goal.at.In_ok-converted c).After-alpha-a) c.in_ok-converted.ensures.1

-- the carries of it are those of its quotients
carried : (c : In_ok-converted) {qs : List ℕ} (x : Ran (List ℕ)) →
    let a = c.args in
    let r = c.in_ok-converted.converted in
    qs ≡ along (λ i x. x / 2 ^ a.mu) r.words → run (raised_shift a.modulus c.alpha-a.result (take a.n qs)) a.tape.now r.cursor ≡ x →
    run (carries a.modulus c.alpha-a.result 1 (2 ^ a.mu) (take a.n r.words)) a.tape.now r.cursor ≡ x
unfolding carries
carried c x e f =
    let a = c.args in
    sym (ap (λ fs. run (raised_shift a.modulus c.alpha-a.result fs) a.tape.now c.in_ok-converted.converted.cursor)
    (ap (take a.n) e ∙ floors-take (λ x. x / 2 ^ a.mu) 1 (2 ^ a.mu) (quotient_is _) (quotient_small _ _ c.requires.1) (room (goal.at.In_ok-converted c).After-alpha-a) (held_x c)))
    ∙ f

pub to_arithmetic-requires : goal.to_arithmetic-requires
to_arithmetic-requires c = let p = c.requires in (short c, held_below p.3 (two c) (words_up (wider c) p.3.all))

pub returns-in_err-converted : goal.returns-in_err-converted
returns-in_err-converted c =
    rw c.from_residual.ensures (convert_ended _ _ _ _ _ (fit (goal.at.returns-in_err-converted c).After-alpha-a) c.alpha-a.ensures c.in_err-converted.ensures)

pub raised_shift-requires : goal.raised_shift-requires
raised_shift-requires c =
    let p = c.requires in
    let at = goal.at.raised_shift-requires c in
    (omega (arith, short at.After-alpha-a), p.1, rw c.alpha-a.ensures p.2, enough at.After-alpha-a, rw c.quotients.ensures (floors-held (λ x. x / 2 ^ c.args.mu) 1 (2 ^ c.args.mu) (quotient_is _) (quotient_small _ _ p.1) (room at.After-alpha-a) (held_x at.In_ok-converted)))

pub returns-in_err-carries : goal.returns-in_err-carries
returns-in_err-carries c =
    let at = goal.at.returns-in_err-carries c in
    rw c.from_residual-in_err-carries.ensures
    (carries_ended _ _ _ _ _ (fit at.After-alpha-a) c.alpha-a.ensures c.in_ok-converted.ensures.0 (carried at.In_ok-converted _ c.quotients.ensures c.in_err-carries.ensures))

pub without-requires : goal.without-requires
without-requires c = (short (goal.at.without-requires c).After-alpha-a, c.requires.1, c.requires.3.most, c.in_ok-carries.ensures.1)

pub returns : goal.returns
returns c =
    let at = goal.at.returns c in
    (switched _ _ _ _ _ (fit at.After-alpha-a) c.alpha-a.ensures c.in_ok-converted.ensures.0 (carried at.In_ok-converted _ c.quotients.ensures c.in_ok-carries.ensures.0) c.without.ensures.1, c.without.ensures.0)
