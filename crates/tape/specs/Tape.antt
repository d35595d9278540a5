-- The tape and a draw from it (document 01, "The tape").
use Rattle.std.specs.Prelude.{ℕ, ◌+◌, ◌%◌, ◌^◌, List, [], ◌∷◌, drop, ltb}
use Rattle.numbers.specs.Tests.{pick}
use Rattle.numbers.specs.Bits.{bits_of}
use Rattle.tape.specs.declared.Cursor.{Cursor}

-- the tape is read from place 0 in each call
abbrev pub start : Cursor
start = record { at = 0 }

-- the place after a word that gave the draw, and after a word that was skipped: one word on, in either case
abbrev pub taken : Cursor → Cursor
taken c = record { at = c.at + 1 }

abbrev pub passed : Cursor → Cursor
passed c = record { at = c.at + 1 }

-- what reading the tape gives: that the tape has ended, or a value with the place of the next word
pub data Ran (A : Type 0) : Type 0 where
  ended : Ran A
  ran : A → Cursor → Ran A

-- the low L bits of a word
unfoldable pub low_bits : ℕ → ℕ → ℕ
low_bits M w = w % 2 ^ bits_of M

-- the draw below M over the words from the place on: the low L bits of the next word if they are below M; otherwise that word is
-- skipped and the next tried
unfoldable pub draw_from : ℕ → Cursor → List ℕ → Ran ℕ
draw_from M c [] = ended
draw_from M c (w ∷ ws) = pick (ltb (low_bits M w) M) (ran (low_bits M w) (taken c)) (draw_from M (passed c) ws)

unfoldable pub draw_at : List ℕ → Cursor → ℕ → Ran ℕ
draw_at tape c M = draw_from M c (drop c.at tape)
