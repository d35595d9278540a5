use Rattle.std.proofs.Common.{◌≡◌, refl, sym, ap, ◌∙◌, ℕ, List, ◌+◌, ◌*◌, ◌^◌, ◌≤◌, ◌<◌, length, take, arith, rules}
use Rattle.numbers.specs.Modulo.{q}
use Rattle.numbers.specs.Bits.{alpha}
use Rattle.params.proofs.SetLaws.{set_laws}
use Rattle.params.proofs.RoomLaws.{alpha_most, half_below, parts_room}
use Rattle.draws.specs.Draws.{Draws, run}
use Rattle.draws.proofs.RunLaws.{run_bind}
use Rattle.tape.specs.Tape.{Ran}
use Rattle.shares.specs.Sharing.{arithmetic}
use Rattle.shares.specs.Refresh.{refresh}
use Rattle.first.specs.First.{add_to_first}
use Rattle.shares.specs.Arrays.{Held}
use Rattle.shares.proofs.ArraysLaws.{held_of, given_held, gave_as, gave_next}
use Rattle.halves.specs.Carries.{carries}
use Rattle.parts.proofs.DecomposeSteps.{offset_words, floors_room, count_room, high_shares_is}
use Rattle.decompose.proofs.high_shares.Goals as goal
use Rattle.decompose.proofs.high_shares.Goals.{After-alpha-t, After-carries_by_q-carries}

fit : (c : After-alpha-t) → c.args.n ≤ length c.args.shares
fit c = omega (arith, c.requires.most, c.requires.all.size)

-- the shares with gamma2 added
offset : (c : After-alpha-t) → Held 8 c.args.n q c.add_to_first-x.result
offset c = let h = c.requires in rw c.add_to_first-x.ensures (held_of h (offset_words (set_laws c.args.p) h.all))

few : (c : After-alpha-t) → c.alpha-t.result ≤ 3
few c = rw c.alpha-t.ensures (alpha_most _ c.requires.most)

pub add_to_first-x-requires : goal.add_to_first-x-requires
add_to_first-x-requires c = (half_below (set_laws c.args.p), c.requires.all)

pub alpha-t-requires : goal.alpha-t-requires
alpha-t-requires c = (c.requires.least, c.requires.most)

pub overflow_add-t : goal.overflow_add-t
overflow_add-t c = omega (arith, few c)

pub power-requires : goal.power-requires
power-requires c = omega (arith, few c)

pub overflow_mul-p : goal.overflow_mul-p
overflow_mul-p c = let h : 2 ^ (23 + alpha c.args.n) * c.args.p.delta < 2 ^ 32 = parts_room (set_laws c.args.p) _ c.requires.most in
    let l : c.args.p.delta * c.power.result < 2 ^ 32 = rw (c.power.ensures, c.alpha-t.ensures) (omega (arith, floors_room c.args.p.delta (23 + alpha c.args.n))) in
    omega arith

pub carries_by_q-carries-requires : goal.carries_by_q-carries-requires
carries_by_q-carries-requires c = let l = set_laws c.args.p in
    let h = c.requires in
    rw (c.power.ensures, c.alpha-t.ensures)
    (omega (arith, alpha_most _ h.most), l.parts_least, parts_room l _ h.most, count_room l _, floors_room _ _, offset (goal.at.carries_by_q-carries-requires c).After-alpha-t)

-- the carries of the shares with gamma2 added
carried : (c : After-carries_by_q-carries) (x : Ran (List ℕ)) →
    let a = c.args in
    let t = 23 + c.alpha-t.result in
    run (carries a.p.delta t (a.p.delta * c.power.result) q (take a.n c.add_to_first-x.result)) a.tape.now a.cursor ≡ x →
    run (carries a.p.delta t (a.p.delta * 2 ^ t) q (take a.n (add_to_first (arithmetic q) a.p.gamma2 a.shares))) a.tape.now a.cursor ≡ x
carried c x e = rw (sym c.power.ensures, sym c.add_to_first-x.ensures) e

pub close-requires : goal.close-requires
close-requires c = (search rules, given_held _ c.carries_by_q-carries.result _ c.requires (set_laws c.args.p).parts_least c.carries_by_q-carries.ensures)

pub returns : goal.returns
returns c =
    let a = c.args in
    let at = goal.at.returns c in
    let part = high_shares_is a.p a.shares (omega (arith, c.requires.least)) (fit at.After-alpha-t) (ap (λ j. 23 + j) c.alpha-t.ensures) in
    gave_as _ _ _ (gave_next _ _ _ c.carries_by_q-carries.result c.close.result _ (λ xs d. run (refresh (arithmetic a.p.delta) xs) a.tape.now d) (gave_as _ _ c.carries_by_q-carries.result c.carries_by_q-carries.ensures (sym (carried at.After-carries_by_q-carries _ refl))) c.close.ensures)
    (sym (ap (λ (d : Draws (List ℕ)). run d a.tape.now a.cursor) part ∙ run_bind _ _ a.tape.now a.cursor))
