-- Laws of one draw: how it goes along the words, and what its answer says.
use mathlib.Core.Path.{◌≡◌, sym, ap, ◌∙◌}
use mathlib.Core.List.{List}
use Prim.Native.Nat.{ℕ, ◌%◌, ◌^◌, ◌≤◌, ◌<◌}
use native.Mathlib.Numerals.{add-one}
use lib.ListN.{length, get_or, drop, drop_of_length-le}
use lib.Seq.{drop-cons}
use lib.Dec.{ltb}
use borrow.Author.Tests.{lt-ltb, le-ltb}
use Rattle.numbers.specs.Tests.{pick}
use Rattle.numbers.specs.Bits.{bits_of}
use Rattle.tape.specs.declared.Cursor.{Cursor}
use Rattle.tape.specs.Tape.{ended, ran, taken, passed, low_bits, draw_from, draw_at}

module _ (tape : List ℕ) (c : Cursor) (M : ℕ) where
  -- past the tape's end there is no draw
  pub draw_end : length tape ≤ c.at → draw_at tape c M ≡ ended
  unfolding draw_at draw_from
  draw_end h = rw drop_of_length-le

  -- a word is read: it gives the draw, or the next is tried
  pub draw_more : c.at < length tape →
      draw_at tape c M ≡ pick (ltb (low_bits M (get_or tape c.at 0)) M) (ran (low_bits M (get_or tape c.at 0)) (taken c)) (draw_at tape (passed c) M)
  unfolding draw_at draw_from
  draw_more h =
      let r : ℕ = low_bits M (get_or tape c.at 0) in
      ap (λ (l : List ℕ). draw_from M c l) (drop-cons tape c.at 0 h)
      ∙ ap (λ (j : ℕ). pick (ltb r M) (ran r (taken c)) (draw_from M (passed c) (drop j tape))) (sym (add-one c.at))

  pub draw_hit : c.at < length tape → (r : ℕ) → low_bits M (get_or tape c.at 0) ≡ r → r < M → draw_at tape c M ≡ ran r (taken c)
  draw_hit h r e l = draw_more h ∙ rw (e, lt-ltb r M l)

  pub draw_skip : c.at < length tape → (r : ℕ) → low_bits M (get_or tape c.at 0) ≡ r → M ≤ r → draw_at tape c M ≡ draw_at tape (passed c) M
  draw_skip h r e l = draw_more h ∙ rw (e, le-ltb r M l)

pub low_is : (M w s r : ℕ) → s ≡ 2 ^ bits_of M → r ≡ w % s → low_bits M w ≡ r
unfolding low_bits
low_is M w s r e f = rw (← e) (sym f)
