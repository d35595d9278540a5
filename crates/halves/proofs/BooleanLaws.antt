-- Arithmetic to Boolean keeps the value: over any n and k, whatever the draws.
use mathlib.Core.Path.{◌≡◌, sym, ap, ap₂, subst, subst₂, ◌∙◌}
use mathlib.Core.List.{List, [], ◌∷◌}
use Prim.Native.Nat.{ℕ, zero, suc, ◌+◌, ◌-◌, ◌*◌, ◌/◌, ◌%◌, ◌^◌, ◌≤◌, ◌<◌}
use native.Mathlib.Nat.{pow-suc, mod-lt}
use native.Mathlib.Omega.{arith}
use lib.ListN.{length, replicate}
use lib.Pow.{pow_pos}
use Rattle.numbers.specs.Modulo.{xor}
use Rattle.numbers.specs.Lists.{Words, fold, sum, xor_all, along}
use Rattle.numbers.proofs.XorLaws.{xor_self, xor_bit, xor_parts}
use Rattle.numbers.proofs.GroupLaws.{xors}
use Rattle.numbers.proofs.WordsLaws.{words_head, words_tail, words_same}
use Rattle.numbers.proofs.FoldLaws.{fold_zeros, fold_below}
use Rattle.draws.proofs.Outcomes.{Gives}
use Rattle.draws.proofs.PlanLaws.{gives_bind, gives_done}
use Rattle.shares.specs.Sharing.{arithmetic, boolean}
use Rattle.shares.proofs.SharingLaws.{Shares}
use Rattle.halves.specs.Halving.{parity}
use Rattle.halves.specs.Shift.{shift_plan}
use Rattle.halves.specs.ToBoolean.{with_bit, bits_from, to_boolean, to_boolean_plan}
use Rattle.halves.proofs.BitLaws.{with_bit_words}
use Rattle.halves.proofs.HalvingGives.{parity_of, halving_floor}

-- the exclusive or of parities is the parity of the sum
xor-with_bit : {n : ℕ} (b : ℕ) (xs ys : List ℕ) → length xs ≡ length ys → Words n (2 ^ b) ys → xor_all (with_bit b xs ys) ≡ xor_all ys + 2 ^ b * parity (sum xs)
unfolding with_bit along xor_all sum fold
xor-with_bit b [] [] e w = omega arith
xor-with_bit b [] (y ∷ ys) e w = absurd (omega arith)
xor-with_bit b (x ∷ xs) [] e w = absurd (omega arith)
xor-with_bit {n = zero} b (x ∷ xs) (y ∷ ys) e w = absurd (omega (arith, w.size))
xor-with_bit {n = suc n} b (x ∷ xs) (y ∷ ys) e w =
    ap (xor (y + 2 ^ b * parity x)) (xor-with_bit b xs ys (omega arith) (words_tail w))
    ∙ xor_parts b y (fold xor ys) (parity x) (parity (sum xs)) (words_head w) (fold_below (xors b) ys (words_tail w))
    ∙ ap (λ (z : ℕ). xor y (fold xor ys) + 2 ^ b * z) (xor_bit x (sum xs))

-- a modulus that is twice another power of two
double : (h : ℕ) → 2 ^ suc h ≡ 2 * 2 ^ h
double h = omega (arith, pow-suc 2 h)

with_bit_keeps : {n u v : ℕ} (b h : ℕ) (xs ys : List ℕ) → Shares (arithmetic (2 ^ suc h)) n v xs → Shares (boolean b) n u ys →
    Shares (boolean (suc b)) n (u + 2 ^ b * parity v) (with_bit b xs ys)
with_bit_keeps {v = v} b h xs ys a c =
    record {
      words = with_bit_words b xs c.words;
      is =
          xor-with_bit b xs ys (a.words.size ∙ sym c.words.size) c.words
          ∙ ap₂ (λ (s t : ℕ). s + 2 ^ b * t) c.is (parity_of (2 ^ h) (sum xs) v (ap (λ (k : ℕ). sum xs % k) (sym (double h)) ∙ a.is));
    }

-- the bits from b on are those of the value
bits_keep : (b h n u v : ℕ) (xs ys : List ℕ) → 0 < n → Shares (arithmetic (2 ^ suc h)) n v xs → Shares (boolean b) n u ys →
    Gives (Shares (boolean (b + suc h)) n (u + 2 ^ b * v)) (bits_from b h xs ys) (shift_plan 2 h n)
unfolding bits_from shift_plan
bits_keep b zero n u v xs ys l a c =
    let bit : v < 2 = subst (λ (x : ℕ). x < 2) a.is (mod-lt (sum xs) (omega arith)) in
    let e : parity v ≡ v = omega arith in
    let k : suc b ≡ b + 1 = omega arith in
    gives_done (rw (← k) (subst (λ (x : ℕ). Shares (boolean (suc b)) n (u + 2 ^ b * x) (with_bit b xs ys)) e (with_bit_keeps b 0 xs ys a c)))
bits_keep b (suc h) n u v xs ys l a c =
    let k : suc b + suc h ≡ b + suc (suc h) = omega arith in
    let e : u + 2 ^ b * parity v + 2 ^ suc b * (v / 2) ≡ u + 2 ^ b * v = whole b u v in
    let p : 2 ^ suc h ≡ 2 ^ h * 2 = pow-suc 2 h in
    rw (← p) (gives_bind _ (shift_plan 2 h n)
    (halving_floor (2 ^ suc h) n v xs (pow_pos (suc h)) l (subst (λ (M : ℕ). Shares (arithmetic M) n v xs) (double (suc h)) a))
    (λ zs d. rw (← k, ← e) (bits_keep (suc b) h n (u + 2 ^ b * parity v) (v / 2) zs (with_bit b xs ys) l d (with_bit_keeps b (suc h) xs ys a c))))
  where
    whole : (b u v : ℕ) → u + 2 ^ b * parity v + 2 ^ suc b * (v / 2) ≡ u + 2 ^ b * v
    whole b u v = let e : v ≡ parity v + 2 * (v / 2) = omega arith in rw pow-suc (omega (arith, ap (λ (x : ℕ). 2 ^ b * x) e))

-- arithmetic to Boolean keeps the value
pub to_boolean_keeps : (k n v : ℕ) (xs : List ℕ) → 1 ≤ k → 0 < n → Shares (arithmetic (2 ^ k)) n v xs → Gives (Shares (boolean k) n v) (to_boolean k xs) (to_boolean_plan k n)
unfolding to_boolean to_boolean_plan xor_all
to_boolean_keeps k n v xs h l a =
    let e : suc (k - 1) ≡ k = omega arith in
    let f : 0 + suc (k - 1) ≡ k = omega arith in
    let g : 0 + 2 ^ 0 * v ≡ v = omega arith in
    rw a.words.size (subst₂ (λ (j w : ℕ). Gives (Shares (boolean j) n w) (bits_from 0 (k - 1) xs (replicate n 0)) (shift_plan 2 (k - 1) n)) f g
    (bits_keep 0 (k - 1) n 0 v xs (replicate n 0) l (rw e a) (record { words = words_same (omega arith); is = fold_zeros xor (xor_self 0) n })))
