-- Shares from whose first a number is taken, as the loop that refreshes them reads them: the first at the start, the others where they were.
use mathlib.Core.Path.{◌≡◌, ap, subst, ◌∙◌}
use mathlib.Core.Logic.{◌≢◌}
use mathlib.Core.List.{List}
use Prim.Native.Nat.{ℕ, ◌-◌, ◌<◌}
use native.Mathlib.Omega.{arith}
use lib.ListN.{get_or, take}
use Rattle.numbers.specs.Lists.{Words}
use Rattle.numbers.proofs.WordsLaws.{change_here, change_other}
use Rattle.tape.specs.declared.Cursor.{Cursor}
use Rattle.draws.specs.Draws.{run}
use Rattle.shares.specs.Sharing.{Sharing, bound, minus}
use Rattle.shares.specs.Refresh.{refresh}
use Rattle.shares.specs.Arrays.{Held}
use Rattle.shares.proofs.ArraysLaws.{held_of}
use Rattle.shares.proofs.TurnLaws.{Writing, writing_start}
use Rattle.first.specs.First.{take_from_first}
use Rattle.first.proofs.FirstLaws.{taken-take, taken_words}

module _ (s : Sharing) (r n : ℕ) (xs : List ℕ) (h : Held 8 n (bound s) xs) where
  pub less_first : (j : ℕ) → j ≡ 0 → get_or (take_from_first s r xs) j 0 ≡ minus s (get_or xs 0 0) r
  unfolding take_from_first
  less_first j e = ap (λ (k : ℕ). get_or (take_from_first s r xs) k 0) e ∙ change_here (λ x. minus s x r) 0 xs (omega (arith, h.all.size))

  pub less_other : (j : ℕ) → j ≢ 0 → get_or (take_from_first s r xs) j 0 ≡ get_or xs j 0
  unfolding take_from_first
  less_other j e = change_other (λ x. minus s x r) 0 xs j e

  module _ (below : r < bound s) where
    pub less-held : Held 8 n (bound s) (take_from_first s r xs)
    less-held = held_of h (taken_words s r (omega (arith, h.two)) below h.all)

    -- with two shares or more the last is not the first
    pub less-start : {zs : List ℕ} → Words 8 (bound s) zs → (tape : List ℕ) (p : Cursor) →
        Writing s 8 n (take_from_first s r xs) tape (run (refresh s (take_from_first s r (take n xs))) tape p) 0 zs (get_or xs (n - 1) 0) p
    less-start {zs} w tape p =
        let lowered : List ℕ = take_from_first s r xs in
        subst (λ (y : ℕ). Writing s 8 n lowered tape (run (refresh s (take_from_first s r (take n xs))) tape p) 0 zs y p) (less_other (n - 1) (omega (arith, h.least)))
        (subst (λ (l : List ℕ). Writing s 8 n lowered tape (run (refresh s l) tape p) 0 zs (get_or lowered (n - 1) 0) p) (taken-take s r n xs (omega (arith, h.least)))
        (writing_start s 8 n lowered zs tape p less-held w))
