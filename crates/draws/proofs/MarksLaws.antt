-- Laws of marked draws: all of them, and those of a plan that comes after another.
use mathlib.Core.Path.{◌≡◌, refl, ap}
use mathlib.Core.Bool.{Bool, true, false}
use mathlib.Core.List.{List, [], ◌∷◌, ◌++◌}
use Prim.Native.Nat.{ℕ, zero, suc, ◌<◌, suc-le-suc}
use native.Mathlib.Nat.{le_of_suc-le-suc}
use native.Mathlib.Omega.{arith}
use lib.ListN.{length, replicate}
use Rattle.draws.specs.Anew.{marked, marks_after, Among}
use Rattle.draws.proofs.Outcomes.{Fits, none_left, one_more, merged, Marks}

pub all_marked : (k M : ℕ) → Marks (replicate k true) (replicate k M) k M
unfolding marked
all_marked zero M = refl
all_marked (suc k) M = ap (M ∷◌) (all_marked k M)

pub all_merged : (k : ℕ) (rs us : List ℕ) → length rs ≡ k → length us ≡ k → merged (replicate k true) rs us ≡ us
unfolding merged
all_merged zero [] [] e h = refl
all_merged zero [] (u ∷ us) e h = absurd (omega arith)
all_merged zero (r ∷ rs) us e h = absurd (omega arith)
all_merged (suc k) [] us e h = absurd (omega arith)
all_merged (suc k) (r ∷ rs) [] e h = absurd (omega arith)
all_merged (suc k) (r ∷ rs) (u ∷ us) e h = ap (u ∷◌) (all_merged k rs us (omega arith) (omega arith))

pub marked-after : (ms xs ys : List ℕ) (bs : List Bool) → length xs ≡ length ms → marked (marks_after ms bs) (xs ++ ys) ≡ marked bs ys
unfolding marked marks_after
marked-after [] [] ys bs e = refl
marked-after [] (x ∷ xs) ys bs e = absurd (omega arith)
marked-after (m ∷ ms) [] ys bs e = absurd (omega arith)
marked-after (m ∷ ms) (x ∷ xs) ys bs e = marked-after ms xs ys bs (omega arith)

pub merged_after : {ms r : List ℕ} (bs : List Bool) (rs us : List ℕ) → Fits ms r → merged (marks_after ms bs) (r ++ rs) us ≡ r ++ merged bs rs us
unfolding merged marks_after
merged_after bs rs us none_left = refl
merged_after bs rs us (one_more {r = r} l f) = ap (r ∷◌) (merged_after bs rs us f)

-- a marked one of a list is one of the list
pub among_marked : (bs : List Bool) (ws : List ℕ) (i : ℕ) → Among i (marked bs ws) → Among i ws
unfolding marked
among_marked [] ws i (a, l, e) = absurd (omega arith)
among_marked (b ∷ bs) [] i (a, l, e) = absurd (omega arith)
among_marked (true ∷ bs) (w ∷ ws) i (zero, l, e) = let h : 0 < suc (length ws) = omega arith in (0, h, e)
among_marked (true ∷ bs) (w ∷ ws) i (suc a, l, e) = let c = among_marked bs ws i (a, le_of_suc-le-suc l, e) in (suc c.0, suc-le-suc c.1, c.2)
among_marked (false ∷ bs) (w ∷ ws) i h = let c = among_marked bs ws i h in (suc c.0, suc-le-suc c.1, c.2)

pub marked-length : (bs : List Bool) (xs ys : List ℕ) → length xs ≡ length ys → length (marked bs xs) ≡ length (marked bs ys)
unfolding marked
marked-length [] xs ys e = refl
marked-length (b ∷ bs) [] [] e = refl
marked-length (b ∷ bs) [] (y ∷ ys) e = absurd (omega arith)
marked-length (b ∷ bs) (x ∷ xs) [] e = absurd (omega arith)
marked-length (true ∷ bs) (x ∷ xs) (y ∷ ys) e = ap suc (marked-length bs xs ys (omega arith))
marked-length (false ∷ bs) (x ∷ xs) (y ∷ ys) e = marked-length bs xs ys (omega arith)
