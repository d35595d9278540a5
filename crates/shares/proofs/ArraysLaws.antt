-- Laws of arrays of shares, and of what the code's answers stand for.
use mathlib.Core.Path.{◌≡◌, refl, sym, ap, subst, ◌∙◌}
use mathlib.Core.List.{List}
use Rattle.std.specs.Prelude.{Option, Some, None, IfSome, MatchOption}
use Prim.Native.Nat.{ℕ, ◌≤◌, ◌<◌}
use native.Mathlib.Omega.{arith}
use lib.ListN.{length, get_or, take, set}
use lib.Seq.{length-take-le, get_or-take, ext_get_or, take-take}
use Rattle.numbers.specs.Lists.{Words}
use Rattle.numbers.proofs.WordsLaws.{words_at, words_set}
use Rattle.tape.specs.declared.Cursor.{Cursor}
use Rattle.tape.specs.Tape.{Ran}
use Rattle.draws.specs.Draws.{after, next}
use Rattle.shares.specs.declared.Row.{Row}
use Rattle.shares.specs.Arrays.{Held, Copied, shared, Gave}

module _ {size n M : ℕ} {words : List ℕ} (a : Held size n M words) where
  pub held_at : (i : ℕ) → get_or words i 0 < M
  held_at i = words_at (omega (arith, a.two)) a.all i

  -- as many shares in other words, below another bound
  pub held_below : {N : ℕ} {others : List ℕ} → 2 ≤ N → Words size N others → Held size n N others
  held_below h w = record { least = a.least; most = a.most; two = h; all = w }

  pub held_of : {others : List ℕ} → Words size M others → Held size n M others
  held_of w = held_below a.two w

  -- a word below M stored
  pub held-set : (i : ℕ) {v : ℕ} → v < M → Held size n M (set words i v)
  held-set i h = held_of (words_set a.all i h)

-- what is copied has the same shares, below the same bound
pub copied_take : {size : ℕ} (n : ℕ) {xs words : List ℕ} → Copied size xs words → n ≤ length xs → take n words ≡ take n xs
copied_take n {xs} {words} c h = sym (take-take n (length xs) words h) ∙ ap (take n) c.first

pub held_copied : {size wide n M : ℕ} {xs words : List ℕ} → Held size n M xs → size ≤ wide → Copied wide xs words → Held wide n M words
held_copied {size} {wide} {M = M} {xs} a h c =
    record {
      least = a.least;
      most = omega (arith, a.most);
      two = a.two;
      all = c.rest M (omega (arith, a.two)) (subst (λ (k : ℕ). Words k M xs) (sym a.all.size) a.all);
    }

-- each place has the word of xs there, or 0
pub copied : {size : ℕ} {xs words : List ℕ} → length xs ≤ size → length words ≡ size → ((j : ℕ) → j < size → get_or words j 0 ≡ get_or xs j 0) → Copied size xs words
copied {size} {xs} {words} h long at =
    record {
      first = ext_get_or 0 (take (length xs) words) xs n (λ j l. let k : j < length xs = omega (arith, n) in get_or-take (length xs) words j 0 k ∙ at j (omega arith));
      rest = λ M k w. record { size = long; below = λ j m. rw (at j m) (words_at k w j) };
    }
  where
    n : length (take (length xs) words) ≡ length xs
    n = length-take-le (length xs) words (omega (arith, long))

-- what a step gave
pub gave_is : (n M : ℕ) {size : ℕ} (r : Option (Row size)) {x : Ran (List ℕ)} → Gave n M r x → shared n r ≡ x
gave_is n M (Some row) g = sym g.0
gave_is n M None g = sym g

pub gave_as : (n M : ℕ) {size : ℕ} (r : Option (Row size)) {x y : Ran (List ℕ)} → Gave n M r x → x ≡ y → Gave n M r y
gave_as n M r g e = subst (λ z. Gave n M r z) e g

-- so it may be closed, if it is given
pub given_held : {size n M : ℕ} {xs : List ℕ} (N : ℕ) (s : Option (Row size)) (x : Ran (List ℕ)) → Held size n M xs → 2 ≤ N → Gave n N s x → IfSome s (λ row. Held size n N row.words)
given_held N (Some row) x h two g = held_below h two g.1
given_held N None x h two g = tt

-- and what follows it: where the tape has ended, nothing
pub gave_next : (n M N : ℕ) {size : ℕ} (s r : Option (Row size)) (x : Ran (List ℕ)) (f : List ℕ → Cursor → Ran (List ℕ)) → Gave n M s x →
    MatchOption s (r ≡ None) (λ row. Gave n N r (f (take n row.words) row.cursor)) → Gave n N r (next x f)
unfolding next after
gave_next n M N (Some row) r x f g h = rw g.0 h
gave_next n M N None r x f g h = rw (g, h) refl
