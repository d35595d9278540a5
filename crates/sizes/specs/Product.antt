-- The product of two sharings modulo M, l the left and r the right shares; document 01 has it at M = q ("Steps", the verdict). Shares are counted
-- from 0 here, from 1 there.
use Rattle.std.specs.Prelude.{List, ℕ, ◌+◌, ◌-◌, ◌*◌, ◌/◌, ◌%◌, length, get_or, replicate}
use Rattle.numbers.specs.Modulo.{add_mod, sub_mod}
use Rattle.numbers.specs.Lists.{change, along}
use Rattle.draws.specs.Draws.{Draws, done, draw, each}

-- share i begins as l_i·r_i
unfoldable pub begun : ℕ → (ls rs : List ℕ) → List ℕ
begun M ls rs = along (λ i l. l * get_or rs i 0 % M) ls

-- l_i·r_j + l_j·r_i
abbrev pub cross : (ls rs : List ℕ) → (i j : ℕ) → ℕ
cross ls rs i j = get_or ls i 0 * get_or rs j 0 + get_or ls j 0 * get_or rs i 0

-- v is added to share i, and l_i·r_j + l_j·r_i − v to share j
unfoldable pub crossed : ℕ → (ls rs : List ℕ) → (i j v : ℕ) → List ℕ → List ℕ
crossed M ls rs i j v xs = change (λ x. add_mod M x (sub_mod M (cross ls rs i j) v)) j (change (λ x. add_mod M x v) i xs)

-- a pair i < j: v is drawn below M
unfoldable pub pair : ℕ → (ls rs : List ℕ) → (i j : ℕ) → List ℕ → Draws (List ℕ)
pair M ls rs i j xs = draw M (λ v. done (crossed M ls rs i j v xs))

-- all pairs of one i in order
unfoldable pub row : ℕ → (ls rs : List ℕ) → ℕ → List ℕ → Draws (List ℕ)
row M ls rs i xs = each (pair M ls rs i) (i + 1) (length ls) xs

-- all pairs in order, i outer
unfoldable pub product : ℕ → (ls rs : List ℕ) → Draws (List ℕ)
product M ls rs = each (row M ls rs) 0 (length ls) (begun M ls rs)

-- its plan: one draw for each pair
unfoldable pub product_plan : ℕ → ℕ → List ℕ
product_plan M n = replicate (n * (n - 1) / 2) M
