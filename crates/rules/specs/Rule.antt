-- The rule of Boolean to arithmetic (document 01, "Steps"). Shares are counted from 0 here, from 1 there.
use Rattle.std.specs.Prelude.{List, [], ◌∷◌, ℕ, zero, suc, ◌^◌, length, get_or, drop}
use Rattle.numbers.specs.Modulo.{xor}
use Rattle.draws.specs.Draws.{Draws, done, bind}
use Rattle.shares.specs.Sharing.{boolean}
use Rattle.shares.specs.Refresh.{refresh}
use Rattle.rules.specs.Psi.{z_of, added}

-- the rule, on two shares and j more. Two shares give one: their exclusive or. With three or more, all are refreshed, and the rule is applied
-- again to U, which is all shares but the first, and then to Z
unfoldable pub rule : ℕ → ℕ → List ℕ → Draws (List ℕ)
rule k zero xs = done (xor (get_or xs 0 0) (get_or xs 1 0) ∷ [])
rule k (suc j) xs =
    bind (refresh (boolean k) xs) (λ ys.
    bind (rule k j (drop 1 ys)) (λ us.
    bind (rule k j (z_of k (length ys) (get_or ys 0 0) (drop 1 ys))) (λ zs.
    done (added (2 ^ k) us zs))))
