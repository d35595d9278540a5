use Rattle.std.proofs.Common.{ap, ◌∙◌, arith}
use Rattle.params.proofs.SetLaws.{set_laws}
use Rattle.params.proofs.RoomLaws.{mask_small}
use Rattle.tape.specs.declared.Cursor.{Cursor}
use Rattle.draws.specs.Draws.{run}
use Rattle.shares.proofs.ArraysLaws.{gave_is}
use Rattle.masks.specs.Sampling.{coefficient}
use Rattle.masks.proofs.SampleSteps.{drawn_if_given, closed}
use Rattle.samplers.proofs.sampled.Goals as goal

pub close_less-requires : goal.close_less-requires
close_less-requires c = let p = c.requires in (omega (arith, mask_small (set_laws c.args.p)), drawn_if_given c.drawn_mod_q-drawn.result _ p.0 p.1 c.drawn_mod_q-drawn.ensures)

pub returns : goal.returns
returns c =
    let a = c.args in
    gave_is _ _ c.close_less.result (closed a.p a.n a.tape.now _ c.drawn_mod_q-drawn.result c.close_less.result c.drawn_mod_q-drawn.ensures c.close_less.ensures)
    ∙ ap (λ (d : Cursor). run (coefficient a.p a.n) a.tape.now d) c.start.ensures
