-- Laws of the loop of halvings: that it is the shift, and arithmetic to Boolean, and what it goes by.
use mathlib.Core.Path.{◌≡◌, refl, sym, ap, subst, ◌∙◌, fun_ext}
use mathlib.Core.Bool.{Bool, true, false}
use mathlib.Core.List.{List, [], ◌∷◌}
use Prim.Native.Nat.{ℕ, zero, suc, ◌+◌, ◌-◌, ◌*◌, ◌/◌, ◌^◌, ◌≤◌, ◌<◌}
use native.Mathlib.Nat.{sub-zero, pow-suc, one-mul, mul-le-mul, mul-le-mul_right}
use native.Mathlib.Numerals.{add-one}
use native.Mathlib.Omega.{arith}
use native.Mathlib.Decide.{dec_le}
use lib.Pow.{pow_pos, pow_mono}
use lib.ListN.{length, get_or, take, replicate}
use lib.Seq.{length-take-le}
use Rattle.numbers.specs.Lists.{Words, along}
use Rattle.numbers.proofs.WordsLaws.{words_head, words_tail, words_same, words_up, words_cons, words_none, words_at, take-replicate}
use Rattle.tape.specs.declared.Cursor.{Cursor}
use Rattle.tape.specs.Tape.{Ran, ended, ran}
use Rattle.draws.specs.Draws.{bind, run}
use Rattle.draws.proofs.RunLaws.{run_done, bind_ran, bind_ended}
use Rattle.std.specs.Prelude.{Option}
use Rattle.shares.specs.declared.Row.{Row}
use Rattle.shares.specs.Arrays.{Held, Gave}
use Rattle.shares.proofs.ArraysLaws.{held_below}
use Rattle.halves.specs.Halving.{halving}
use Rattle.halves.specs.Shift.{shift}
use Rattle.halves.specs.ToBoolean.{with_bit, bits_from, to_boolean}
use Rattle.halves.specs.Halvings.{gathered, gathered_word, halvings_from, halvings, halvings_bound}
use Rattle.halves.proofs.BitLaws.{with_bit_words, with_bit-take}

-- ---- the loop is the steps
from_shift : (m b h : ℕ) (xs ys : List ℕ) → halvings_from false m b h xs ys ≡ shift m h xs
unfolding halvings_from shift
from_shift m b zero xs ys = refl
from_shift m b (suc h) xs ys = ap (bind (halving (2 ^ h * m) xs)) (fun_ext (λ zs. from_shift m (suc b) h zs ys))

halvings-shift : (m t : ℕ) (xs : List ℕ) → halvings false m t xs ≡ shift m t xs
unfolding halvings
halvings-shift m t xs = from_shift m 0 t xs (replicate (length xs) 0)

from_bits : (b h : ℕ) (xs ys : List ℕ) → halvings_from true 2 b h xs ys ≡ bits_from b h xs ys
unfolding halvings_from bits_from
from_bits b zero xs ys = refl
from_bits b (suc h) xs ys =
    let e : 2 ^ h * 2 ≡ 2 ^ suc h = sym (pow-suc 2 h) in
    rw e (ap (bind (halving (2 ^ suc h) xs)) (fun_ext (λ zs. from_bits (suc b) h zs (with_bit b xs ys))))

halvings_bits : (k : ℕ) (xs : List ℕ) → halvings true 2 (k - 1) xs ≡ to_boolean k xs
unfolding halvings to_boolean
halvings_bits k xs = from_bits 0 (k - 1) xs (replicate (length xs) 0)

-- and so of what the loop gave
module _ (n : ℕ) (ws tape : List ℕ) (p : Cursor) (r : Option (Row 8)) where
  pub given_shift : (m t : ℕ) → Gave n m r (run (halvings false m t (take n ws)) tape p) → Gave n m r (run (shift m t (take n ws)) tape p)
  given_shift m t a = rw (← halvings-shift m t (take n ws)) a

  pub given_bits : (k : ℕ) → 1 ≤ k → Gave n (2 ^ suc (k - 1)) r (run (halvings true 2 (k - 1) (take n ws)) tape p) →
      Gave n (2 ^ k) r (run (to_boolean k (take n ws)) tape p)
  given_bits k h a =
      let e : suc (k - 1) ≡ k = omega arith in
      rw (← halvings_bits k (take n ws)) (subst (λ (j : ℕ). Gave n (2 ^ j) r (run (halvings true 2 (k - 1) (take n ws)) tape p)) e a)

-- the halvings between k bits begin modulo 2^k
pub power_last : (k : ℕ) → 1 ≤ k → 2 ^ (k - 1) * 2 ≡ 2 ^ k
power_last k h = let e : suc (k - 1) ≡ k = omega arith in sym (pow-suc 2 (k - 1)) ∙ ap (λ (j : ℕ). 2 ^ j) e

-- ---- what is gathered
gathered-take : (g : Bool) (b n : ℕ) (xs ys : List ℕ) → take n (gathered g b xs ys) ≡ gathered g b (take n xs) (take n ys)
gathered-take true b n xs ys = with_bit-take b n xs ys
gathered-take false b n xs ys = refl

gathered_words : {n : ℕ} (g : Bool) (b : ℕ) (xs : List ℕ) {ys : List ℕ} → Words n (2 ^ b) ys → Words n (2 ^ suc b) (gathered g b xs ys)
gathered_words true b xs w = with_bit_words b xs w
gathered_words false b xs w = words_up (pow_mono {i = b} {j = suc b} (omega arith)) w

-- ---- two shares as a list
pub gathered_two : (g : Bool) (b x y u v : ℕ) → gathered_word g b x u ∷ gathered_word g b y v ∷ [] ≡ gathered g b (x ∷ y ∷ []) (u ∷ v ∷ [])
unfolding with_bit along
gathered_two true b x y u v = refl
gathered_two false b x y u v = refl

pub take_two : (ws : List ℕ) → 2 ≤ length ws → get_or ws 0 0 ∷ get_or ws 1 0 ∷ [] ≡ take 2 ws
take_two [] h = absurd (omega arith)
take_two (x ∷ []) h = absurd (omega arith)
take_two (x ∷ y ∷ ws) h = refl

pub words_two : {n M : ℕ} {ws : List ℕ} → 0 < M → Words n M ws → Words 2 M (get_or ws 0 0 ∷ get_or ws 1 0 ∷ [])
words_two h w = words_cons (words_at h w 0) (words_cons (words_at h w 1) words_none)

pub held_two : {n M : ℕ} {ws : List ℕ} → Held 8 n M ws → Held 2 2 M (get_or ws 0 0 ∷ get_or ws 1 0 ∷ [])
held_two a = record { least = omega arith; most = omega arith; two = a.two; all = words_two (omega (arith, a.two)) a.all }

pub given_two : (n M : ℕ) (g : Bool) (m t : ℕ) (ws tape : List ℕ) (p : Cursor) (r : Option (Row 8)) → n ≡ 2 → length ws ≡ 8 →
    Gave 2 M r (run (halvings g m t (get_or ws 0 0 ∷ get_or ws 1 0 ∷ [])) tape p) → Gave n M r (run (halvings g m t (take n ws)) tape p)
given_two n M g m t ws tape p r e size a = rw (e, ← take_two ws (omega arith)) a

-- in an array of eight
pub words_eight : {M : ℕ} {x y : ℕ} → Words 2 M (x ∷ y ∷ []) → Words 8 M (x ∷ y ∷ replicate 6 0)
words_eight w = let h = words_head w in words_cons h (words_cons (words_head (words_tail w)) (words_same (omega arith)))

-- ---- the loop: b of t halvings are made, bits has those before b, and what is left to do gives the same as the whole
pub record Halved (size n : ℕ) (g : Bool) (m t : ℕ) (tape : List ℕ) (x : Ran (List ℕ)) (b : ℕ) (words bits : List ℕ) (modulus : ℕ) (p : Cursor) : Type 0 where
  pub most : b ≤ t
  pub two : 2 ≤ m
  pub is : modulus ≡ 2 ^ (t - b) * m
  pub word : modulus < 2 ^ 32
  pub held : Held size n modulus words
  pub below : Words size (2 ^ b) bits
  pub same : run (halvings_from g m b (t - b) (take n words) (take n bits)) tape p ≡ x

-- at most 30 halvings fit
pub halved_fits : (m t : ℕ) → 2 ≤ m → 2 ^ t * m < 2 ^ 32 → t ≤ 30
halved_fits m t two h = go (dec_le 31 t)
  where
    go : Dec (31 ≤ t) → t ≤ 30
    go (yes l) = absurd (let z : 2 ^ 31 * 2 ≤ 2 ^ t * m = mul-le-mul (pow_mono {i = 31} {j = t} l) two in omega arith)
    go (no n) = omega (arith, n)

pub halved_start : {size n m t : ℕ} {words : List ℕ} {modulus : ℕ} (g : Bool) (tape : List ℕ) (p : Cursor) → 2 ≤ m → modulus ≡ 2 ^ t * m → 2 ^ t * m < 2 ^ 32 → Held size n (2 ^ t * m) words →
    Halved size n g m t tape (run (halvings g m t (take n words)) tape p) 0 words (replicate size 0) modulus p
unfolding halvings
halved_start {size} {n} {words = words} g tape p two e l h =
    record {
      most = omega arith;
      two = two;
      is = rw sub-zero e;
      word = rw e l;
      held = rw e h;
      below = words_same (omega arith);
      same =
          let f : length (take n words) ≡ n = length-take-le n words (omega (arith, h.most, h.all.size)) in
          rw (sub-zero, f, take-replicate n size 0 h.most);
    }

module _ {size n : ℕ} {g : Bool} {m t : ℕ} {tape : List ℕ} {x : Ran (List ℕ)} {b : ℕ} {words bits : List ℕ} {modulus : ℕ} {p : Cursor}
    (a : Halved size n g m t tape x b words bits modulus p) where
  -- all are made
  module _ (h : t ≤ b) where
    at_end : b ≡ t
    at_end = omega (arith, a.most)

    pub halved_bits : Words size (2 ^ t) bits
    halved_bits = subst (λ (j : ℕ). Words size (2 ^ j) bits) at_end a.below

    pub halved_words : g ≡ false → Words size (halvings_bound g m t) words
    halved_words f = let e : t - b ≡ 0 = omega arith in rw f (subst (λ (k : ℕ). Words size k words) (a.is ∙ rw e (one-mul m)) a.held.all)

    pub halved_gathered_words : g ≡ true → Words size (halvings_bound g m t) (with_bit t words bits)
    halved_gathered_words f = rw f (with_bit_words t words halved_bits)

    last : run (halvings_from g m t 0 (take n words) (take n bits)) tape p ≡ x
    last = let e : t - t ≡ 0 = omega arith in subst (λ (j : ℕ). run (halvings_from g m t j (take n words) (take n bits)) tape p ≡ x) e (subst (λ (j : ℕ). run (halvings_from g m j (t - j) (take n words) (take n bits)) tape p ≡ x) at_end a.same)

    pub halved_shares : g ≡ false → x ≡ ran (take n words) p
    unfolding halvings_from
    halved_shares e = sym last ∙ rw e (run_done (take n words) tape p)

    pub halved_gathered : g ≡ true → x ≡ ran (take n (with_bit t words bits)) p
    unfolding halvings_from
    halved_gathered e = sym (ap (λ (l : List ℕ). ran l p) (with_bit-take t n words bits) ∙ sym (rw e (run_done (with_bit t (take n words) (take n bits)) tape p)) ∙ last)

  -- one more
  module _ (h : b < t) where
    left : t - b ≡ suc (t - (b + 1))
    left = omega arith

    -- the modulus is even, and half of it is the next
    twice : modulus ≡ 2 * (2 ^ (t - (b + 1)) * m)
    twice = let e : modulus ≡ 2 ^ (t - (b + 1)) * 2 * m = a.is ∙ ap (λ (k : ℕ). 2 ^ k * m) left ∙ rw pow-suc in omega arith

    half : modulus / 2 ≡ 2 ^ (t - (b + 1)) * m
    half = omega (arith, twice)

    even : 2 * (modulus / 2) ≡ modulus
    even = omega (arith, twice)

    pub halved_held : Held size n (2 * (modulus / 2)) words
    halved_held = subst (λ (k : ℕ). Held size n k words) (sym even) a.held

    parts : halvings_from g m b (t - b) (take n words) (take n bits)
        ≡ bind (halving (modulus / 2) (take n words)) (λ zs. halvings_from g m (suc b) (t - (b + 1)) zs (gathered g b (take n words) (take n bits)))
    unfolding halvings_from
    parts = rw left (rw half)

    pub halved_ended : run (halving (modulus / 2) (take n words)) tape p ≡ ended → x ≡ ended
    halved_ended e = sym a.same ∙ rw parts (bind_ended (halving (modulus / 2) (take n words)) _ tape p e)

    pub halved_more : {others more : List ℕ} {c : Cursor} → run (halving (modulus / 2) (take n words)) tape p ≡ ran (take n others) c → Words size (modulus / 2) others →
        more ≡ gathered g b words bits → Halved size n g m t tape x (b + 1) others more (modulus / 2) c
    halved_more {others} {more} {c} e w f =
        record {
          most = omega arith;
          two = a.two;
          is = half;
          word = omega (arith, a.word);
          held = held_below a.held (let l : 1 * m ≤ 2 ^ (t - (b + 1)) * m = mul-le-mul_right m (pow_pos (t - (b + 1))) in rw half (omega (arith, a.two))) w;
          below = rw (f, add-one b) (gathered_words g b words a.below);
          same =
              ap (λ (l : List ℕ). run (halvings_from g m (b + 1) (t - (b + 1)) (take n others) l) tape c) (ap (take n) f ∙ gathered-take g b n words bits)
              ∙ ap (λ (j : ℕ). run (halvings_from g m j (t - (b + 1)) (take n others) (gathered g b (take n words) (take n bits))) tape c) (add-one b)
              ∙ sym (rw parts (bind_ran (halving (modulus / 2) (take n words)) _ tape p (take n others) c e)) ∙ a.same;
        }
