-- Laws of the copies that go through all eight places of an array.
use mathlib.Core.Path.{◌≡◌, refl, sym, ◌∙◌}
use mathlib.Core.List.{List}
use Prim.Native.Nat.{ℕ, ◌+◌, ◌≤◌, ◌<◌}
use native.Mathlib.Omega.{arith}
use native.Mathlib.Decide.{ℕ_discrete}
use lib.ListN.{length, get_or, set, take, length-set}
use lib.Seq.{length-take-le, get_or-take, get_or-set_same, get_or-set_other, ext_get_or}

-- at turn i, the places before i have the words that are written, as far as there are places
pub record Writing (words out₀ : List ℕ) (i : ℕ) (out : List ℕ) : Type 0 where
  pub kept : length out ≡ length out₀
  pub before : (j : ℕ) → j < i → j < length out₀ → get_or out j 0 ≡ get_or words j 0

pub writing_start : {words out : List ℕ} → Writing words out 0 out
writing_start = record { kept = refl; before = λ j h l. absurd (omega arith) }

module _ {words out₀ : List ℕ} {i : ℕ} {out : List ℕ} (a : Writing words out₀ i out) where
  pub writing_more : {others : List ℕ} → others ≡ set out i (get_or words i 0) → Writing words out₀ (i + 1) others
  writing_more {others} e = record { kept = rw e (length-set out i (get_or words i 0) ∙ a.kept); before = λ j h l. rw e (go j h l (ℕ_discrete j i)) }
    where
      go : (j : ℕ) → j < i + 1 → j < length out₀ → Dec (j ≡ i) → get_or (set out i (get_or words i 0)) j 0 ≡ get_or words j 0
      go j h l (yes f) = rw f (get_or-set_same out i (get_or words i 0) 0 (omega (arith, a.kept)))
      go j h l (no n) = get_or-set_other out i j (get_or words i 0) 0 n ∙ a.before j (omega (arith, n)) l

  pub writing_all : length out₀ ≤ i → length out₀ ≤ length words → out ≡ take (length out₀) words
  writing_all h k = ext_get_or 0 out (take (length out₀) words) (a.kept ∙ sym size) (λ j l. go j (omega (arith, a.kept)))
    where
      size : length (take (length out₀) words) ≡ length out₀
      size = length-take-le (length out₀) words k

      go : (j : ℕ) → j < length out₀ → get_or out j 0 ≡ get_or (take (length out₀) words) j 0
      go j l = a.before j (omega arith) l ∙ sym (get_or-take (length out₀) words j 0 l)
