-- Laws of the rule in arrays of nine words, and of the zero share that is appended.
use mathlib.Core.Path.{◌≡◌, sym, ap, ap₂, subst, ◌∙◌}
use mathlib.Core.List.{List, [], ◌∷◌, ◌++◌}
use Prim.Native.Nat.{ℕ, suc, ◌+◌, ◌-◌, ◌^◌, ◌≤◌, ◌<◌}
use native.Mathlib.Numerals.{add-one}
use native.Mathlib.Omega.{arith}
use lib.ListN.{length, get_or, set, take, drop, length-drop}
use lib.Pow.{pow_pos}
use lib.Seq.{get_or-take, length-take-le, take-suc-set}
use Rattle.numbers.specs.Lists.{Words, along}
use Rattle.numbers.proofs.WordsLaws.{words_take, words_drop, words_set, take_rest}
use Rattle.tape.specs.declared.Cursor.{Cursor}
use Rattle.draws.specs.Draws.{run}
use Rattle.std.specs.Prelude.{Option}
use Rattle.shares.specs.declared.Row.{Row}
use Rattle.shares.specs.Arrays.{Held, Copied, Gave}
use Rattle.shares.proofs.ArraysLaws.{copied_take, held_copied, gave_as}
use Rattle.rules.specs.Psi.{z_of, added}
use Rattle.rules.specs.Rule.{rule}
use Rattle.rules.proofs.RuleLaws.{listed, three_held}
use Rattle.rules.specs.ToArithmetic.{to_arithmetic}
use Rattle.rules.proofs.ListLaws.{z_take}

-- three of nine words, one by one
module _ {s : ℕ} (k : ℕ) {ws : List ℕ} (a : Held 9 s (2 ^ k) ws) (e : s ≡ 3) where
  three_listed : take 3 ws ≡ get_or ws 0 0 ∷ get_or ws 1 0 ∷ get_or ws 2 0 ∷ []
  unfolding along
  three_listed = listed 3 ws (omega (arith, a.all.size))

  pub three_asked : Held 3 3 (2 ^ k) (get_or ws 0 0 ∷ get_or ws 1 0 ∷ get_or ws 2 0 ∷ [])
  three_asked = three_held a.two (subst (Words 3 (2 ^ k)) three_listed (words_take 3 (omega arith) a.all))

  pub rule_three : (tape : List ℕ) (p : Cursor) (r : Option (Row 8)) → Gave 2 (2 ^ k) r (run (rule k 1 (get_or ws 0 0 ∷ get_or ws 1 0 ∷ get_or ws 2 0 ∷ [])) tape p) →
      Gave (s - 1) (2 ^ k) r (run (rule k (s - 2) (take s ws)) tape p)
  rule_three tape p r g = rw e (gave_as 2 (2 ^ k) r g (ap (λ xs. run (rule k 1 xs) tape p) (sym three_listed)))

pub rule_four : {s : ℕ} (k : ℕ) (ws tape : List ℕ) (p : Cursor) (r : Option (Row 8)) → s ≡ 4 →
    Gave 3 (2 ^ k) r (run (rule k 2 (take 4 ws)) tape p) → Gave (s - 1) (2 ^ k) r (run (rule k (s - 2) (take s ws)) tape p)
rule_four k ws tape p r e g = rw e g

-- U and Z are held as the shares were
pub held_shorter : {s M : ℕ} {ws others : List ℕ} → Held 9 s M ws → 3 ≤ s → Words 9 M others → Held 9 (s - 1) M others
held_shorter a big w = record { least = omega arith; most = omega (arith, a.most); two = a.two; all = w }

pub u_words : {M : ℕ} {fresh u : List ℕ} → 0 < M → Words 9 M fresh → Copied 9 (drop 1 fresh) u → Words 9 M u
u_words {M} {fresh} h w c =
    let rest : Words 8 M (drop 1 fresh) = words_drop w in
    c.rest M h (subst (λ (n : ℕ). Words n M (drop 1 fresh)) (sym rest.size) rest)

-- U, and Z, in the arrays of their shares
module _ {s : ℕ} (big : 3 ≤ s) (fresh : List ℕ) {u : List ℕ} (size : length fresh ≡ 9) (most : s ≤ 9) (w : Copied 9 (drop 1 fresh) u) where
  pub u_is : take (s - 1) u ≡ drop 1 (take s fresh)
  u_is =
      let one : suc (s - 1) ≡ s = omega arith in
      copied_take (s - 1) w (omega (arith, length-drop 1 fresh)) ∙ take_rest (s - 1) fresh ∙ ap (λ (j : ℕ). drop 1 (take j fresh)) one

  pub z_is : (k : ℕ) {z : List ℕ} → z ≡ z_of k s (get_or fresh 0 0) u → take (s - 1) z ≡ z_of k (length (take s fresh)) (get_or (take s fresh) 0 0) (drop 1 (take s fresh))
  z_is k same =
      ap (take (s - 1)) same ∙ z_take (s - 1) k s (get_or fresh 0 0) u (omega arith) ∙ rw (u_is, length-take-le s fresh (omega arith), get_or-take s fresh 0 0 (omega arith))

-- the results added, in arrays
pub results_added : {s : ℕ} (M : ℕ) (first second rs : List ℕ) → 3 ≤ s → take (s - 2 + 1) rs ≡ added M (take (s - 2) first) (take (s - 2) second) →
    take (s - 1) rs ≡ added M (take (s - 1 - 1) first) (take (s - 1 - 1) second)
results_added {s} M first second rs big h =
    let more : s - 1 ≡ s - 2 + 1 = omega arith in
    let fewer : s - 2 ≡ s - 1 - 1 = omega arith in
    ap (λ (j : ℕ). take j rs) more ∙ h ∙ ap (λ (j : ℕ). added M (take j first) (take j second)) fewer

-- ---- the zero share appended
module _ {n : ℕ} (k : ℕ) {ws w : List ℕ} (a : Held 8 n (2 ^ k) ws) (c : Copied 9 ws w) where
  pub zero_held : Held 9 (n + 1) (2 ^ k) (set w n 0)
  zero_held =
      let b : Held 9 n (2 ^ k) w = held_copied a (omega arith) c in
      record { least = omega (arith, a.least); most = omega (arith, a.most); two = a.two; all = words_set b.all n (pow_pos k) }

  zero_is : take (n + 1) (set w n 0) ≡ take n ws ++ (0 ∷ [])
  zero_is =
      let size : length w ≡ 9 = (held_copied a (omega arith) c).all.size in
      ap (λ (j : ℕ). take j (set w n 0)) (add-one n) ∙ take-suc-set w n 0 (omega (arith, a.most))
      ∙ ap (λ (l : List ℕ). l ++ (0 ∷ [])) (copied_take n c (omega (arith, a.most, a.all.size)))

  pub zero_gave : (tape : List ℕ) (p : Cursor) (r : Option (Row 8)) →
      Gave (n + 1 - 1) (2 ^ k) r (run (rule k (n + 1 - 2) (take (n + 1) (set w n 0))) tape p) →
      Gave n (2 ^ k) r (run (to_arithmetic k (take n ws)) tape p)
  unfolding to_arithmetic
  zero_gave tape p r g =
      let size : length (take n ws) ≡ n = length-take-le n ws (omega (arith, a.most, a.all.size)) in
      let one : n + 1 - 1 ≡ n = omega arith in
      let fewer : n + 1 - 2 ≡ length (take n ws) - 1 = omega arith in
      subst (λ (j : ℕ). Gave j (2 ^ k) r (run (to_arithmetic k (take n ws)) tape p)) one
      (gave_as (n + 1 - 1) (2 ^ k) r g (ap₂ (λ (j : ℕ) (xs : List ℕ). run (rule k j xs) tape p) fewer zero_is))
