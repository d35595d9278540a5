use Rattle.std.proofs.Common.{sym, ap, ◌∙◌, List, ℕ, take, None, Some, arith}
use Rattle.params.proofs.SetLaws.{set_laws}
use Rattle.params.proofs.RoomLaws.{mask_small}
use Rattle.tape.specs.Tape.{ran}
use Rattle.masks.proofs.SampleSteps.{drawn_if_given, closed}
use Rattle.polynomial.proofs.write_row.Goals as goal

pub close_less-requires : goal.close_less-requires
close_less-requires c =
    let p = c.requires in
    (omega (arith, mask_small (set_laws c.args.p)), drawn_if_given c.drawn_mod_q-drawn.result _ p.0 p.1 c.drawn_mod_q-drawn.ensures)

pub returns-in_err-closed : goal.returns-in_err-closed
returns-in_err-closed c =
    let a = c.args in
    rw c.from_residual.ensures (sym (closed a.p a.n a.tape.now a.cursor c.drawn_mod_q-drawn.result None c.drawn_mod_q-drawn.ensures c.in_err-closed.ensures))

pub returns : goal.returns
returns c =
    let a = c.args in
    let r = c.in_ok-closed.closed in
    ap (λ (l : List ℕ). ran l r.cursor) (c.copy_out.ensures ∙ ap (λ (k : ℕ). take k r.words) c.requires.2)
    ∙ sym (closed a.p a.n a.tape.now a.cursor c.drawn_mod_q-drawn.result (Some r) c.drawn_mod_q-drawn.ensures c.in_ok-closed.ensures).0
