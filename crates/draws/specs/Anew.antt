-- To set draws anew: to change the low L bits of the words that gave them and nothing more (document 01, "The tape").
use Rattle.std.specs.Prelude.{◌≡◌, Bool, true, false, List, [], ◌∷◌, ℕ, ◌+◌, ◌*◌, ◌/◌, ◌^◌, ◌≤◌, ◌<◌, length, get_or, set}
use Rattle.numbers.specs.Bits.{bits_of}
use Rattle.numbers.specs.Lists.{Words}
use Rattle.tape.specs.declared.Cursor.{Cursor}
use Rattle.tape.specs.Tape.{low_bits}
use Rattle.draws.specs.Plan.{places}

-- the bits of a word above its low L bits
unfoldable pub high_bits : ℕ → ℕ → ℕ
high_bits M w = w / 2 ^ bits_of M

-- a word with r for its low L bits
unfoldable pub with_low : ℕ → ℕ → ℕ → ℕ
with_low M w r = high_bits M w * 2 ^ bits_of M + r

-- the numbers rs for the low bits of the words at the places ws, in turn
unfoldable pub set_at : ℕ → List ℕ → List ℕ → List ℕ → List ℕ
set_at M tape [] rs = tape
set_at M tape (w ∷ ws) [] = tape
set_at M tape (w ∷ ws) (r ∷ rs) = set_at M (set tape w (with_low M (get_or tape w 0) r)) ws rs

-- those of a list that are marked
unfoldable pub marked : List Bool → List ℕ → List ℕ
marked [] xs = []
marked (b ∷ bs) [] = []
marked (true ∷ bs) (x ∷ xs) = x ∷ marked bs xs
marked (false ∷ bs) (x ∷ xs) = marked bs xs

-- none of the draws ms, and then the marks bs
unfoldable pub marks_after : List ℕ → List Bool → List Bool
marks_after [] bs = bs
marks_after (m ∷ ms) bs = false ∷ marks_after ms bs

-- the tape with the marked ones of the draws ms, which are draws below M, set anew to us
unfoldable pub anew : List Bool → ℕ → List ℕ → List ℕ → Cursor → List ℕ → List ℕ
anew bs M ms tape c us = set_at M tape (marked bs (places ms tape c)) us

-- i is one of the places ws
abbrev pub Among : ℕ → List ℕ → Type 0
Among i ws = (a : ℕ) × (a < length ws) × (get_or ws a 0 ≡ i)

-- t reaches up to the place b, and from the place a up to there, b left out, has the words of s
pub record Same (s t : List ℕ) (a b : ℕ) : Type 0 where
  pub reaches : b ≤ length t
  pub words : (i : ℕ) → a ≤ i → i < b → get_or s i 0 ≡ get_or t i 0

-- t is the tape with the draws that the words at ws gave set anew to rs: the low L bits of those words, and nothing more
pub record SetAnew (M : ℕ) (tape ws rs t : List ℕ) : Type 0 where
  pub size : length t ≡ length tape
  pub others : (i : ℕ) → ¬ (Among i ws) → get_or t i 0 ≡ get_or tape i 0
  pub high : (i : ℕ) → high_bits M (get_or t i 0) ≡ high_bits M (get_or tape i 0)
  pub low : (a : ℕ) → a < length ws → low_bits M (get_or t (get_or ws a 0) 0) ≡ get_or rs a 0

-- of the lists of k numbers below M exactly one has Q: one has it, and any that has it is that one
pub record ExactlyOne (k M : ℕ) (Q : List ℕ → Type 0) : Type 0 where
  pub setting : List ℕ
  pub words : Words k M setting
  pub works : Q setting
  pub only : (rs : List ℕ) → Words k M rs → Q rs → rs ≡ setting

-- exactly one list of k numbers of L bits, to which the marked ones of the draws ms are set anew, makes a tape that has Q: the marked ones are draws below M,
-- and a number that is put into the low L bits of a word is below 2^L
pub record OneAnew (bs : List Bool) (k M : ℕ) (ms tape : List ℕ) (c : Cursor) (Q : List ℕ → Type 0) : Type 0 where
  pub one : ExactlyOne k (2 ^ bits_of M) (λ us. Q (anew bs M ms tape c us))
  -- to set them anew changes the low L bits of the words that gave them, and nothing more
  pub nothing_else : (us : List ℕ) → Words k (2 ^ bits_of M) us → SetAnew M tape (marked bs (places ms tape c)) us (anew bs M ms tape c us)
  -- which leaves a tape of 32-bit words
  pub still_words : (us : List ℕ) → Words k (2 ^ bits_of M) us → ((i : ℕ) → get_or tape i 0 < 2 ^ 32) → (i : ℕ) → get_or (anew bs M ms tape c us) i 0 < 2 ^ 32
