use Rattle.std.proofs.Common.{◌≡◌, sym, ◌∙◌, take, ◌+◌, ◌-◌, ◌<◌, get_or, drop, length-take, arith, rules}
use Rattle.std.proofs.lemmas.List.{get_or-take}
use Rattle.std.proofs.lemmas.Grind.{get_or_after_one}
use Rattle.shares.proofs.LoopLaws.{looping_done}
use Rattle.halves.proofs.ParityLaws.{joining_start, joining_ended, joining_more}
use Rattle.halving.proofs.parity.shared_parity.Goals as goal

pub loop-share-init : goal.loop-share-init
loop-share-init c = joining_start _ _ _ _ _ _ c.requires

pub refresh-requires : goal.refresh-requires
refresh-requires c = (search rules, (search rules, c.loop-share.invariant.left.held))

pub returns-in_err-fresh : goal.returns-in_err-fresh
returns-in_err-fresh c = rw c.from_residual.ensures (joining_ended c.loop-share.invariant (search rules) c.in_err-fresh.ensures)

pub join-requires : goal.join-requires
join-requires c = let h = c.loop-share.invariant.left.held in (c.in_ok-fresh.ensures.1, h.most, h.two, omega arith)

pub loop-share-preserved : goal.loop-share-preserved
loop-share-preserved c =
    let i = c.loop-share.share-index in
    let last = c.args.n - 1 in
    let later = drop 1 c.args.shares in
    let h : i < last = omega (arith, c.loop-share-test.true, length-take last later) in
    let next : i + 1 ≡ 1 + i = omega arith in
    let at : get_or c.args.shares (i + 1) 0 ≡ get_or (take last later) i 0 = rw next (sym (get_or-take last later i 0 h ∙ get_or_after_one c.args.shares i 0)) in
    joining_more c.loop-share.invariant (search rules) _ c.in_ok-fresh.ensures.0 (rw at c.join.ensures)

pub returns : goal.returns
returns c = let l = c.loop-share.invariant.left in (looping_done l (search rules), l.held.all)
