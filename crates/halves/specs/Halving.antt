-- One halving, 2m to m (document 01, "Steps"). Shares are counted from 0 here, from 1 there.
use Rattle.std.specs.Prelude.{List, ◌∷◌, ℕ, ◌-◌, ◌*◌, ◌/◌, ◌%◌, length, get_or, replicate, eqb}
use Rattle.numbers.specs.Tests.{pick}
use Rattle.numbers.specs.Modulo.{add_mod, sub_mod}
use Rattle.numbers.specs.Lists.{change, along, over}
use Rattle.draws.specs.Draws.{Draws, done, bind, each}
use Rattle.shares.specs.Sharing.{arithmetic, negated, move}
use Rattle.shares.specs.Refresh.{refresh}

abbrev pub parity : ℕ → ℕ
parity x = x % 2

-- a parity p joins A, whose shares are ps: if p = 1, all of A is negated; then p is added to A's first share
unfoldable pub join : ℕ → ℕ → List ℕ → List ℕ
join M p ps = change (λ a. add_mod M a p) 0 (pick (eqb p 1) (negated M ps) ps)

-- A is refreshed, and then the parity of share i joins it
unfoldable pub join_turn : ℕ → List ℕ → ℕ → List ℕ → Draws (List ℕ)
join_turn M xs i ps = bind (refresh (arithmetic M) ps) (λ qs. done (join M (parity (get_or xs i 0)) qs))

-- A begins as the first share's parity and zeros; the parities of the other shares join it in turn
unfoldable pub shared_parity : ℕ → List ℕ → Draws (List ℕ)
shared_parity M xs = each (join_turn M xs) 1 (length xs) (parity (get_or xs 0 0) ∷ replicate (length xs - 1) 0)

-- the shares with A subtracted
unfoldable pub less : ℕ → List ℕ → List ℕ → List ℕ
less M ps xs = along (λ i x. sub_mod M x (get_or ps i 0)) xs

-- the parity of share i, as it is, moved into the last share
unfoldable pub move_parity : ℕ → ℕ → ℕ → List ℕ → List ℕ
move_parity M last i xs = move (arithmetic M) i last (parity (get_or xs i 0)) xs

-- the same for each share but the last, in order
unfoldable pub evened : ℕ → List ℕ → List ℕ
evened M xs = over (move_parity M (length xs - 1)) (length xs - 1) xs

unfoldable pub halves : List ℕ → List ℕ
halves xs = along (λ i x. x / 2) xs

-- one halving: all steps but the last are modulo 2m
unfoldable pub halving : ℕ → List ℕ → Draws (List ℕ)
halving m xs = bind (shared_parity (2 * m) xs) (λ ps. done (halves (evened (2 * m) (less (2 * m) ps xs))))

-- its plan: (n - 1)² draws
unfoldable pub halving_plan : ℕ → ℕ → List ℕ
halving_plan m n = replicate ((n - 1) * (n - 1)) (2 * m)
