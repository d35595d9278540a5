-- Programs of draws: in them the steps of document 01 are written, and only `run` reads the tape (document 01, "The tape").
use Rattle.std.specs.Prelude.{ℕ, zero, suc, ◌-◌, List}
use Rattle.tape.specs.declared.Cursor.{Cursor}
use Rattle.tape.specs.Tape.{Ran, ended, ran, draw_at}

-- a program of draws: a value, or a draw below M and what follows it
pub data Draws (A : Type 0) : Type 0 where
  done : A → Draws A
  draw : ℕ → (ℕ → Draws A) → Draws A

-- by cases on what reading the tape gave
unfoldable pub after : {A B : Type 0} → Ran A → B → (A → Cursor → B) → B
after ended b f = b
after (ran a c) b f = f a c

-- what follows; where the tape has ended, nothing does
unfoldable pub next : {A B : Type 0} → Ran A → (A → Cursor → Ran B) → Ran B
next x f = after x ended f

-- each draw hands the tape's place on to the next
unfoldable pub run : {A : Type 0} → Draws A → List ℕ → Cursor → Ran A
run (done a) tape c = ran a c
run (draw M k) tape c = next (draw_at tape c M) (λ r p. run (k r) tape p)

-- a program and then another that goes by its value
unfoldable pub bind : {A B : Type 0} → Draws A → (A → Draws B) → Draws B
bind (done a) f = f a
bind (draw M k) f = draw M (λ r. bind (k r) f)

-- k turns: f at i, at i + 1 and so on
unfoldable pub turns : {A : Type 0} → (ℕ → A → Draws A) → ℕ → ℕ → A → Draws A
turns f i zero a = done a
turns f i (suc k) a = bind (f i a) (λ b. turns f (suc i) k b)

-- f at each number from i up to n, n left out
unfoldable pub each : {A : Type 0} → (ℕ → A → Draws A) → ℕ → ℕ → A → Draws A
each f i n a = turns f i (n - i) a
