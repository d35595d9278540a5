-- What a run of the steps of one coefficient leaves is a mask.
use mathlib.Core.Path.{◌≡◌, ap, ◌∙◌}
use mathlib.Core.List.{List}
use Prim.Native.Nat.{ℕ, ◌+◌, ◌-◌, ◌*◌, ◌^◌, ◌≤◌, ◌<◌}
use native.Mathlib.Omega.{arith}
use lib.IntN.{pos, ◌-ℤ◌}
use Rattle.numbers.specs.Modulo.{q, sub_mod}
use Rattle.numbers.specs.Bits.{alpha}
use Rattle.numbers.specs.Lists.{Words, xor_all}
use Rattle.numbers.specs.Centred.{centred}
use Rattle.numbers.proofs.CentredLaws.{centred-sub, less_least, less_most}
use Rattle.params.specs.declared.Params.{Params}
use Rattle.params.specs.Laws.{Laws}
use Rattle.params.proofs.RoomLaws.{mask_small}
use Rattle.tape.specs.declared.Cursor.{Cursor}
use Rattle.tape.specs.Tape.{ran}
use Rattle.draws.specs.Draws.{run}
use Rattle.draws.specs.Plan.{draw_all}
use Rattle.draws.proofs.RunLaws.{bind_parts}
use Rattle.draws.proofs.PlanLaws.{always_run, words_used, run_reads, gives_all, fits_words}
use Rattle.shares.specs.Sharing.{arithmetic, value}
use Rattle.shares.proofs.SharingLaws.{Shares}
use Rattle.masks.specs.Sampling.{mask_plan, masked, coefficient}
use Rattle.masks.specs.Mask.{Mask}
use Rattle.masks.proofs.SampleGives.{drawn_below, masked_gives, coefficient_gives}

module _ {p : Params} (l : Laws p) (n : ℕ) (least : 0 < n) (room : p.mu + alpha n ≤ 32) (tape : List ℕ) where
  pub coefficient_masks : {from to : Cursor} {ys : List ℕ} → run (coefficient p n) tape from ≡ ran ys to → Mask p n tape from to ys
  unfolding coefficient
  coefficient_masks {from} {to} {ys} e =
      let (xs, s, first, last) = bind_parts (draw_all (mask_plan p n)) (masked p) tape from e in
      let w : Words n (2 ^ p.mu) xs = fits_words n (2 ^ p.mu) xs (always_run (gives_all (mask_plan p n)).always tape from first) in
      let a : Shares (arithmetic q) n (sub_mod q (xor_all xs) (p.gamma1 - 1)) ys = always_run (masked_gives l n least room xs w).always tape s last in
      let x : ℕ = xor_all xs in
      let g : ℕ = p.gamma1 - 1 in
      let small : x < 2 * p.gamma1 = drawn_below l n least room xs w in
      let is : centred q (value (arithmetic q) ys) ≡ pos x -ℤ pos g =
      ap (centred q) a.is ∙ centred-sub q x g (omega (arith, mask_small l)) (omega (arith, mask_small l)) in
      record {
        steps = e;
        words = a.words;
        used = words_used (coefficient_gives l n least room).plan tape from e;
        read = λ other same. run_reads (coefficient p n) from e same;
        drawn = xs;
        place = s;
        first = first;
        recombined = is;
        least = rw is (less_least x g);
        most = rw is (less_most x g p.gamma1 (omega (arith, l.offset)));
      }
