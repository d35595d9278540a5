use Rattle.std.proofs.Common.{sym, pow_mono, arith}
use Rattle.params.proofs.SetLaws.{set_laws}
use Rattle.params.proofs.RoomLaws.{alpha_most, q_room, mask_least, mask_most}
use Rattle.draws.proofs.RunLaws.{bind_ran, bind_ended}
use Rattle.shares.proofs.ArraysLaws.{gave_as}
use Rattle.sample.proofs.drawn_mod_q.Goals as goal

pub draw_shares-requires : goal.draw_shares-requires
draw_shares-requires c = let p = c.requires in
    let l = set_laws c.args.p in
    (p.0, p.1, mask_least l, omega (arith, mask_most l))

pub returns-in_err-drawn : goal.returns-in_err-drawn
returns-in_err-drawn c = rw c.from_residual.ensures (bind_ended _ _ _ _ c.in_err-drawn.ensures)

pub to_modulus-requires : goal.to_modulus-requires
to_modulus-requires c =
    let p = c.requires in
    let l = set_laws c.args.p in
    (omega (arith, mask_most l, alpha_most _ p.1), omega arith, q_room _ p.1, record { least = p.0; most = p.1; two = pow_mono {i = 1} (mask_least l); all = c.in_ok-drawn.ensures.1 })

pub returns : goal.returns
returns c = gave_as _ _ _ c.to_modulus.ensures (sym (bind_ran _ _ _ _ _ _ c.in_ok-drawn.ensures.0))
