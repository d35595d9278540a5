-- Laws of widening, as the code goes through it: where the tape ends, and what it gives.
use mathlib.Core.Path.{◌≡◌, sym, ap, ◌∙◌}
use mathlib.Core.List.{List}
use Prim.Native.Nat.{ℕ, ◌+◌, ◌*◌, ◌^◌, ◌≤◌, ◌<◌}
use native.Mathlib.Nat.{mul-le-mul_left, mul-le-mul_right}
use native.Mathlib.Omega.{arith}
use lib.ListN.{length, take}
use lib.Pow.{pow_pos, pow_mono}
use lib.Seq.{length-take-le}
use Rattle.numbers.specs.Modulo.{q}
use Rattle.numbers.specs.Bits.{alpha}
use Rattle.numbers.specs.Lists.{Words}
use Rattle.numbers.proofs.BitsLaws.{alpha_smallest}
use Rattle.params.specs.declared.Bounds.{Bounds}
use Rattle.params.specs.Laws.{KindLaws}
use Rattle.params.proofs.RoomLaws.{reach_below}
use Rattle.tape.specs.declared.Cursor.{Cursor}
use Rattle.tape.specs.Tape.{ended, ran}
use Rattle.draws.specs.Draws.{done, bind, run}
use Rattle.draws.proofs.RunLaws.{run_done, part_ran, part_ended}
use Rattle.shares.specs.Sharing.{arithmetic}
use Rattle.first.specs.First.{add_to_first, take_from_first}
use Rattle.first.proofs.FirstLaws.{added-take, added_words, taken-take, taken_words}
use Rattle.halves.specs.Carries.{carries, without}
use Rattle.sizes.specs.Widening.{wide, widened, widen_shift, widen}

-- the multiple of q that is taken from a share is below the widened modulus
pub multiple_below : {factor m e : ℕ} → m ≡ factor * q → e < factor → q * e < m
multiple_below {factor} {m} {e} f h = omega (arith, mul-le-mul_left q h)

-- and so is the share
pub share_below : {factor m x : ℕ} → m ≡ factor * q → 1 ≤ factor → x < q → x < m
share_below {factor} f h l = omega (arith, mul-le-mul_left q h)

-- what is made of the shares with b added and of their carries
unfoldable taken_off : Bounds → List ℕ → List ℕ → List ℕ
taken_off bounds ys es = take_from_first (widened bounds) bounds.b (without (wide bounds) q es ys)

whole_is : {n t : ℕ} (bounds : Bounds) (ws : List ℕ) → 0 < n → n ≤ length ws → t ≡ widen_shift n →
    let ys = take n (add_to_first (arithmetic q) bounds.b ws) in widen bounds (take n ws) ≡ bind (carries (2 ^ bounds.rho) t (2 ^ t) q ys) (λ es. done (taken_off bounds ys es))
unfolding widen taken_off
whole_is {n} {t} bounds ws pos most is =
    let same : widen_shift (length (take n ws)) ≡ t = ap widen_shift (length-take-le n ws most) ∙ sym is in
    rw (same, added-take (arithmetic q) bounds.b n ws pos)

module _ {n t : ℕ} (bounds : Bounds) (ws tape : List ℕ) (p : Cursor) (pos : 0 < n) (most : n ≤ length ws) (is : t ≡ widen_shift n) where
  abbrev ys : List ℕ
  ys = add_to_first (arithmetic q) bounds.b ws

  pub widen_ended : run (carries (2 ^ bounds.rho) t (2 ^ t) q (take n ys)) tape p ≡ ended → run (widen bounds (take n ws)) tape p ≡ ended
  widen_ended = part_ended _ _ tape p (whole_is bounds ws pos most is)

  pub widen_ran : (es : List ℕ) {c : Cursor} → run (carries (2 ^ bounds.rho) t (2 ^ t) q (take n ys)) tape p ≡ ran (take n es) c →
      (ms : List ℕ) {rs : List ℕ} → take n ms ≡ without (wide bounds) q (take n es) (take n ys) → rs ≡ take_from_first (widened bounds) bounds.b ms → run (widen bounds (take n ws)) tape p ≡ ran (take n rs) c
  unfolding taken_off
  widen_ran es {c} e ms {rs} g f =
      sym (ap (λ xs. ran xs c) (ap (take n) f ∙ taken-take (widened bounds) bounds.b n ms pos ∙ ap (take_from_first (widened bounds) bounds.b) g)
      ∙ sym (part_ran _ _ tape p (whole_is bounds ws pos most is) e ∙ run_done (taken_off bounds (take n ys) (take n es)) tape c))

-- the words that are handed on, all eight
module _ {bounds : Bounds} (h : KindLaws bounds) where
  pub offset_words : {ws : List ℕ} → Words 8 q ws → Words 8 q (add_to_first (arithmetic q) bounds.b ws)
  offset_words w = added_words (arithmetic q) bounds.b (omega arith) (reach_below h) w

  pub wide_least : q ≤ wide bounds
  wide_least = omega (arith, mul-le-mul_right q (pow_pos bounds.rho))

  pub wide_two : 2 ≤ wide bounds
  wide_two = omega (arith, wide_least)

  pub reach_wide : bounds.b < wide bounds
  reach_wide = omega (arith, reach_below h, wide_least)

  pub widened_words : {ms : List ℕ} → Words 8 (wide bounds) ms → Words 8 (wide bounds) (take_from_first (widened bounds) bounds.b ms)
  widened_words w = taken_words (widened bounds) bounds.b (omega (arith, wide_least)) reach_wide w

  -- 2^(α+1+ρ) has room for the floors, and for n − 1
  pub floors_room : (n : ℕ) → 2 ^ (alpha n + 1) ≤ 2 ^ (alpha n + 1) * 2 ^ bounds.rho
  floors_room n = omega (arith, mul-le-mul_left (2 ^ (alpha n + 1)) (pow_pos bounds.rho))

  pub count_room : (n : ℕ) → n ≤ 2 ^ (alpha n + 1) * 2 ^ bounds.rho
  count_room n = let l : 2 ^ alpha n ≤ 2 ^ (alpha n + 1) = pow_mono (omega arith) in omega (arith, (alpha_smallest n).holds, floors_room n)
