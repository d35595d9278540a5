-- What the answer of the opening stands for.
use Rattle.std.specs.Prelude.{ℕ, Option, Some, None}
use Rattle.tape.specs.declared.Cursor.{Cursor}
use Rattle.tape.specs.Tape.{Ran, ended, ran}

-- the high part and the place of the next word, or that the tape has ended
abbrev pub high_stands_for : Option (ℕ × Cursor) → Ran ℕ
high_stands_for (Some d) = ran d.0 d.1
high_stands_for None = ended
