use Rattle.std.proofs.Common.{◌≡◌, sym, ap, ◌∙◌, ℕ, List, ◌+◌, ◌*◌, ◌^◌, ◌≤◌, length, take, pow_pos, arith}
use Rattle.numbers.specs.Modulo.{q}
use Rattle.params.proofs.SetLaws.{kind_laws}
use Rattle.params.proofs.RoomLaws.{alpha_most, rho_most, wraps_least, reach_below, wraps_room}
use Rattle.draws.specs.Draws.{run}
use Rattle.tape.specs.Tape.{Ran}
use Rattle.shares.specs.Arrays.{Held}
use Rattle.shares.specs.Sharing.{arithmetic}
use Rattle.shares.proofs.ArraysLaws.{held_of}
use Rattle.first.specs.First.{add_to_first, take_from_first}
use Rattle.halves.specs.Carries.{carries, without}
use Rattle.sizes.specs.Widening.{wide, widened}
use Rattle.sizes.proofs.WideningSteps.{offset_words, reach_wide, widened_words, floors_room, count_room, widen_ended, widen_ran}
use Rattle.widening.proofs.widen.Goals as goal
use Rattle.widening.proofs.widen.Goals.{After-alpha-t, After-carries_by_q, After-take_from_first, After-without_carries}

fit : (c : After-alpha-t) → c.args.n ≤ length c.args.shares
fit c = omega (arith, c.requires.most, c.requires.all.size)

-- the shares with b added
offset : (c : After-alpha-t) → Held 8 c.args.n q c.add_to_first-x.result
offset c = let h = c.requires in rw c.add_to_first-x.ensures (held_of h (offset_words (kind_laws c.args.bounds) h.all))

-- their carries
carried : (c : After-carries_by_q) (x : Ran (List ℕ)) →
    let a = c.args in
    let t = c.alpha-t.result + 1 in
    run (carries c.power-factor.result t c.power.result q (take a.n c.add_to_first-x.result)) a.tape.now a.cursor ≡ x →
    run (carries (2 ^ a.bounds.rho) t (2 ^ t) q (take a.n (add_to_first (arithmetic q) a.bounds.b a.shares))) a.tape.now a.cursor ≡ x
carried c x e = rw (sym c.power-factor.ensures, sym c.power.ensures, sym c.add_to_first-x.ensures) e

-- the shares without them
middle : (c : After-without_carries) →
    let bounds = c.args.bounds in
    let n = c.args.n in
    take n c.without_carries.result ≡ without (wide bounds) q (take n c.in_ok-carries.carries.words) (take n (add_to_first (arithmetic q) bounds.b c.args.shares))
middle c =
    rw (sym c.wide-m.ensures, sym c.add_to_first-x.ensures) c.without_carries.ensures.1

-- and b taken away again
result : (c : After-take_from_first) →
    let bounds = c.args.bounds in
    c.take_from_first.result ≡ take_from_first (widened bounds) bounds.b c.without_carries.result
result c =
    let b = c.args.bounds.b in
    c.take_from_first.ensures ∙ ap (λ m. take_from_first (arithmetic m) b c.without_carries.result) c.wide-m.ensures

few : (c : After-alpha-t) → c.alpha-t.result ≤ 3
few c = rw c.alpha-t.ensures (alpha_most _ c.requires.most)

pub add_to_first-x-requires : goal.add_to_first-x-requires
add_to_first-x-requires c = (reach_below (kind_laws c.args.bounds), c.requires.all)

pub alpha-t-requires : goal.alpha-t-requires
alpha-t-requires c = (c.requires.least, c.requires.most)

pub overflow_add-t : goal.overflow_add-t
overflow_add-t c = omega (arith, c.alpha-t.ensures, few c)

pub power-factor-requires : goal.power-factor-requires
power-factor-requires c = omega (arith, rho_most (kind_laws c.args.bounds))

pub power-requires : goal.power-requires
power-requires c = omega (arith, few (goal.at.power-requires c).After-alpha-t)

pub carries_by_q-requires : goal.carries_by_q-requires
carries_by_q-requires c = let r = kind_laws c.args.bounds in
    let h = c.requires in
    rw (c.power-factor.ensures, c.power.ensures, c.alpha-t.ensures)
    (omega (arith, alpha_most _ h.most), wraps_least r, wraps_room r _ h.most, count_room r _, floors_room r _, offset (goal.at.carries_by_q-requires c).After-alpha-t)

pub returns-in_err-carries : goal.returns-in_err-carries
returns-in_err-carries c =
    let at = goal.at.returns-in_err-carries c in
    rw c.from_residual.ensures (widen_ended _ _ _ _ (omega (arith, c.requires.least)) (fit at.After-alpha-t) (ap (λ j. j + 1) c.alpha-t.ensures) (carried at.After-carries_by_q _ c.in_err-carries.ensures))

pub without_carries-requires : goal.without_carries-requires
without_carries-requires c = let power = c.power-factor.ensures in
    (c.wide-m.ensures ∙ ap (λ p. p * q) (sym power), rw power (pow_pos c.args.bounds.rho), c.requires.most, (offset (goal.at.without_carries-requires c).After-alpha-t).all, c.in_ok-carries.ensures.1)

pub take_from_first-requires : goal.take_from_first-requires
take_from_first-requires c = (rw c.wide-m.ensures (reach_wide (kind_laws c.args.bounds)), c.without_carries.ensures.0)

pub returns : goal.returns
returns c =
    let r = kind_laws c.args.bounds in
    let is = result (goal.at.returns c).After-take_from_first in
    let at = goal.at.returns c in (
      widen_ran _ _ _ _ (omega (arith, c.requires.least)) (fit at.After-alpha-t) (ap (λ j. j + 1) c.alpha-t.ensures) _ (carried at.After-carries_by_q _ c.in_ok-carries.ensures.0) _ (middle at.After-without_carries) is,
      rw is (widened_words r (rw (sym c.wide-m.ensures) c.without_carries.ensures.0)),
    )
