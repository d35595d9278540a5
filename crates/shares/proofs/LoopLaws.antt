-- A loop of turns on n shares in an array, as the code goes through it.
use mathlib.Core.Path.{◌≡◌, sym, ◌∙◌}
use mathlib.Core.List.{List}
use Prim.Native.Nat.{ℕ, ◌+◌, ◌≤◌, ◌<◌}
use lib.ListN.{take}
use Rattle.numbers.specs.Lists.{Words}
use Rattle.tape.specs.declared.Cursor.{Cursor}
use Rattle.tape.specs.Tape.{Ran, ended, ran}
use Rattle.draws.specs.Draws.{Draws, each, run}
use Rattle.draws.proofs.RunLaws.{each_done, each_more, each_ended}
use Rattle.shares.specs.Arrays.{Held}
use Rattle.shares.proofs.ArraysLaws.{held_of}

-- at turn i: the turns f that are left, up to top, give x
pub record Looping (f : ℕ → List ℕ → Draws (List ℕ)) (top size n M : ℕ) (tape : List ℕ) (x : Ran (List ℕ)) (i : ℕ) (words : List ℕ) (p : Cursor) : Type 0 where
  pub held : Held size n M words
  pub same : run (each f i top (take n words)) tape p ≡ x

module _ {f : ℕ → List ℕ → Draws (List ℕ)} {top size n M : ℕ} {tape : List ℕ} {x : Ran (List ℕ)} {i : ℕ} {words : List ℕ} {p : Cursor}
    (a : Looping f top size n M tape x i words p) where
  -- no turn is left
  pub looping_done : top ≤ i → x ≡ ran (take n words) p
  looping_done h = sym a.same ∙ each_done f i top (take n words) tape p h

  module _ (h : i < top) where
    -- the tape has ended
    pub looping_ended : run (f i (take n words)) tape p ≡ ended → x ≡ ended
    looping_ended e = sym a.same ∙ each_ended f i top (take n words) tape p h e

    -- a turn gave other words
    pub looping_more : {others : List ℕ} {c : Cursor} → run (f i (take n words)) tape p ≡ ran (take n others) c → Words size M others → Looping f top size n M tape x (i + 1) others c
    looping_more {others} {c} e w = record { held = held_of a.held w; same = sym (each_more f i top (take n words) tape p h (take n others) c e) ∙ a.same }
