-- What the answer of the writers stands for, beside the slice that they were lent. Of a slice that was not filled nothing is said: it may hold some
-- rows, and who lent it wipes it.
use Rattle.std.specs.Prelude.{List, ℕ, Option, Some, None}
use Rattle.tape.specs.declared.Cursor.{Cursor}
use Rattle.tape.specs.Tape.{Ran, ended, ran}

abbrev pub written_stands_for : Option Cursor → List ℕ → Ran (List ℕ)
written_stands_for (Some c) out = ran out c
written_stands_for None out = ended
