-- Laws of Decompose, as the code goes through it: where the tape ends, and what is opened.
use mathlib.Core.Path.{◌≡◌, refl, sym, ap, ◌∙◌}
use mathlib.Core.List.{List}
use Prim.Native.Nat.{ℕ, ◌+◌, ◌*◌, ◌^◌, ◌≤◌, ◌<◌}
use native.Mathlib.Nat.{mod-lt, mul_comm, mul-le-mul_left}
use native.Mathlib.Omega.{arith}
use lib.ListN.{length, take}
use lib.Pow.{pow_mono}
use lib.Seq.{length-take-le}
use Rattle.numbers.specs.Modulo.{q}
use Rattle.numbers.specs.Bits.{alpha}
use Rattle.numbers.specs.Lists.{Words, sum}
use Rattle.numbers.proofs.BitsLaws.{alpha_smallest}
use Rattle.params.specs.declared.Params.{Params}
use Rattle.params.specs.Laws.{Laws}
use Rattle.params.proofs.RoomLaws.{half_below, multiple_below}
use Rattle.tape.specs.declared.Cursor.{Cursor}
use Rattle.tape.specs.Tape.{ended, ran}
use Rattle.draws.specs.Draws.{bind, run}
use Rattle.draws.proofs.RunLaws.{run_done, part_ran, part_ended, bind_parts}
use Rattle.shares.specs.Sharing.{arithmetic, value}
use Rattle.shares.specs.Refresh.{refresh}
use Rattle.first.specs.First.{add_to_first}
use Rattle.first.proofs.FirstLaws.{added-take, added_words, taken-take, taken_words}
use Rattle.halves.specs.Carries.{carries}
use Rattle.parts.specs.Decompose.{high_shift, high_shares, high_part, low_shares}

-- the words that are handed on, all eight
pub offset_words : {p : Params} → Laws p → {ws : List ℕ} → Words 8 q ws → Words 8 q (add_to_first (arithmetic q) p.gamma2 ws)
offset_words {p} l w = added_words (arithmetic q) p.gamma2 (omega arith) (half_below l) w

-- δ·2^(23+α) has room for the floors, and for n − 1
pub floors_room : (δ t : ℕ) → δ * 2 ^ t ≤ 2 ^ t * δ
floors_room δ t = omega (arith, mul_comm δ (2 ^ t))

pub count_room : {p : Params} → Laws p → (n : ℕ) → n ≤ 2 ^ (23 + alpha n) * p.delta
count_room {p} l n =
    let e : 2 ^ alpha n ≤ 2 ^ (23 + alpha n) = pow_mono (omega arith) in
    omega (arith, (alpha_smallest n).holds, mul-le-mul_left (2 ^ (23 + alpha n)) l.parts_least)

-- shares of the high part, on the first n words of an array: carries, and a refresh
pub high_shares_is : {n t : ℕ} (p : Params) (ws : List ℕ) → 0 < n → n ≤ length ws → t ≡ high_shift n →
    high_shares p (take n ws) ≡ bind (carries p.delta t (p.delta * 2 ^ t) q (take n (add_to_first (arithmetic q) p.gamma2 ws))) (refresh (arithmetic p.delta))
unfolding high_shares
high_shares_is {n} {t} p ws pos most is =
    let same : high_shift (length (take n ws)) ≡ t = ap high_shift (length-take-le n ws most) ∙ sym is in
    rw (same, added-take (arithmetic q) p.gamma2 n ws pos)

-- the high part
module _ (p : Params) (xs tape : List ℕ) (c : Cursor) where
  pub shares_ended : run (high_shares p xs) tape c ≡ ended → run (high_part p xs) tape c ≡ ended
  unfolding high_part
  shares_ended = part_ended _ _ tape c refl

  pub opens : {hs : List ℕ} {d : Cursor} → run (high_shares p xs) tape c ≡ ran hs d → run (high_part p xs) tape c ≡ ran (value (arithmetic p.delta) hs) d
  unfolding high_part
  opens {hs} {d} e = part_ran _ _ tape c refl e ∙ run_done (value (arithmetic p.delta) hs) tape d

  -- what is opened is below δ
  pub high_below : 0 < p.delta → {high : ℕ} {d : Cursor} → run (high_part p xs) tape c ≡ ran high d → high < p.delta
  unfolding high_part run
  high_below pos {high} e =
      let (hs, d, f, g) = bind_parts (high_shares p xs) _ tape c e in
      let is : high ≡ value (arithmetic p.delta) hs = cc in
      rw is (mod-lt (sum hs) pos)

-- the low shares, on the first n words of an array, and the words that are handed on
pub low_take : (p : Params) (high n : ℕ) (ws : List ℕ) → 0 < n → take n (low_shares p high ws) ≡ low_shares p high (take n ws)
unfolding low_shares
low_take p high n ws pos = taken-take (arithmetic q) (2 * p.gamma2 * high) n ws pos

pub low_words : {p : Params} → Laws p → {high : ℕ} → high < p.delta → {n : ℕ} {ws : List ℕ} → Words n q ws → Words n q (low_shares p high ws)
unfolding low_shares
low_words {p} l {high} h w = taken_words (arithmetic q) (2 * p.gamma2 * high) (omega arith) (multiple_below l h) w
