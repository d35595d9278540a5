-- What the answer of a draw stands for.
use Rattle.std.specs.Prelude.{ℕ, Option, Some, None}
use Rattle.tape.specs.declared.Cursor.{Cursor}
use Rattle.tape.specs.Tape.{Ran, ended, ran}

abbrev pub draw_stands_for : Option (ℕ × Cursor) → Ran ℕ
draw_stands_for (Some d) = ran d.0 d.1
draw_stands_for None = ended
