-- What the laws of programs speak of: every outcome, the plan of a program, and draws that are handed to it.
use mathlib.Core.Path.{◌≡◌}
use mathlib.Core.Bool.{Bool, true, false}
use mathlib.Core.List.{List, [], ◌∷◌}
use Prim.Native.Nat.{ℕ, ◌<◌}
use lib.ListN.{replicate}
use Rattle.draws.specs.Draws.{Draws, done, draw}
use Rattle.draws.specs.Anew.{marked}

-- P holds of the value, whatever numbers below their moduli the draws give
pub data Always {A : Type 0} (P : A → Type 0) : Draws A → Type 0 where
  holds : {a : A} → P a → Always P (done a)
  whatever : {M : ℕ} {k : ℕ → Draws A} → ((r : ℕ) → r < M → Always P (k r)) → Always P (draw M k)

-- the plan of a program: it draws below each of ms in turn, whatever the draws give
pub data Plan {A : Type 0} : Draws A → List ℕ → Type 0 where
  stops : {a : A} → Plan (done a) []
  draws : {M : ℕ} {k : ℕ → Draws A} {ms : List ℕ} → ((r : ℕ) → r < M → Plan (k r) ms) → Plan (draw M k) (M ∷ ms)

-- both at once
pub record Gives {A : Type 0} (P : A → Type 0) (d : Draws A) (ms : List ℕ) : Type 0 where
  pub plan : Plan d ms
  pub always : Always P d

-- numbers that the draws of a plan can give: as many as the plan says, each below its modulus
pub data Fits : List ℕ → List ℕ → Type 0 where
  none_left : Fits [] []
  one_more : {M : ℕ} {ms : List ℕ} {r : ℕ} {rs : List ℕ} → r < M → Fits ms rs → Fits (M ∷ ms) (r ∷ rs)

-- the value of a program whose draws are handed to it (0 for each that is missing)
unfoldable pub feed : {A : Type 0} → Draws A → List ℕ → A
feed (done a) rs = a
feed (draw M k) [] = feed (k 0) []
feed (draw M k) (r ∷ rs) = feed (k r) rs

-- a list with the numbers us in place of those that are marked
unfoldable pub merged : List Bool → List ℕ → List ℕ → List ℕ
merged [] xs us = xs
merged (b ∷ bs) [] us = []
merged (true ∷ bs) (x ∷ xs) [] = x ∷ xs
merged (true ∷ bs) (x ∷ xs) (u ∷ us) = u ∷ merged bs xs us
merged (false ∷ bs) (x ∷ xs) us = x ∷ merged bs xs us

-- of the draws ms, the marked ones are k draws below M
abbrev pub Marks : List Bool → List ℕ → ℕ → ℕ → Type 0
Marks bs ms k M = marked bs ms ≡ replicate k M
