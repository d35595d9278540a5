-- The shift and arithmetic to Boolean as the code makes them, in one loop of halvings. Nothing here has to be believed: no public promise speaks of it,
-- and the laws `halvings-shift` and `halvings_bits` say that it is the same as the steps of `Shift` and `ToBoolean`.
use Rattle.std.specs.Prelude.{Bool, List, ℕ, zero, suc, ◌+◌, ◌*◌, ◌^◌, length, replicate}
use Rattle.numbers.specs.Tests.{pick}
use Rattle.draws.specs.Draws.{Draws, done, bind}
use Rattle.halves.specs.Halving.{parity, halving}
use Rattle.halves.specs.ToBoolean.{with_bit}

-- bit b put onto the words, where bits are gathered
abbrev pub gathered : Bool → ℕ → List ℕ → List ℕ → List ℕ
gathered g b xs ys = pick g (with_bit b xs ys) ys

-- the same of one word
abbrev pub gathered_word : Bool → ℕ → ℕ → ℕ → ℕ
gathered_word g b x y = pick g (y + 2 ^ b * parity x) y

-- h halvings down to m from bit b on, ys having the bits before it; at the end the gathered words, or the shares
unfoldable pub halvings_from : Bool → ℕ → ℕ → ℕ → List ℕ → List ℕ → Draws (List ℕ)
halvings_from g m b zero xs ys = done (pick g (with_bit b xs ys) xs)
halvings_from g m b (suc h) xs ys = bind (halving (2 ^ h * m) xs) (λ zs. halvings_from g m (suc b) h zs (gathered g b xs ys))

-- t of them
unfoldable pub halvings : Bool → ℕ → ℕ → List ℕ → Draws (List ℕ)
halvings g m t xs = halvings_from g m 0 t xs (replicate (length xs) 0)

-- what their result is below
abbrev pub halvings_bound : Bool → ℕ → ℕ → ℕ
halvings_bound g m t = pick g (2 ^ suc t) m
