-- The refresh keeps the value, its words stay below the bound, and it makes n - 1 draws: over any n, M and k.
use mathlib.Core.Path.{◌≡◌, subst}
use mathlib.Core.List.{List}
use Prim.Native.Nat.{ℕ, suc, ◌-◌, ◌*◌, ◌<◌}
use native.Mathlib.Nat.{sub-zero}
use native.Mathlib.Omega.{arith}
use lib.ListN.{length, replicate}
use Rattle.draws.specs.Draws.{turns, each}
use Rattle.draws.proofs.Outcomes.{Gives}
use Rattle.draws.proofs.PlanLaws.{gives_done, gives_draw, gives_turns}
use Rattle.shares.specs.Sharing.{Sharing, bound}
use Rattle.shares.specs.Refresh.{turn, refresh, refresh_plan}
use Rattle.shares.proofs.SharingLaws.{Shares}
use Rattle.shares.proofs.MoveLaws.{move_keeps}

-- a refresh of d + 1 shares, as turns
pub refresh-turns : (s : Sharing) (d : ℕ) (xs : List ℕ) → length xs ≡ suc d → refresh s xs ≡ turns (turn s d) 0 d xs
unfolding refresh each
refresh-turns s d xs e = let l : length xs - 1 ≡ d = omega arith in rw (l, sub-zero)

module _ (s : Sharing) (pos : 0 < bound s) {n : ℕ} where
  turn_keeps : (last i v : ℕ) (xs : List ℕ) → last < n → i < n → Shares s n v xs → Gives (Shares s n v) (turn s last i xs) (replicate 1 (bound s))
  unfolding turn
  turn_keeps last i v xs hl h a = gives_draw (λ r l. gives_done (move_keeps s pos last i r l hl h a))

  -- whatever the draws, the refresh gives as many words below the bound, of the same value
  pub refresh_keeps : (v : ℕ) (xs : List ℕ) → 0 < n → Shares s n v xs → Gives (Shares s n v) (refresh s xs) (refresh_plan s n)
  unfolding refresh_plan
  refresh_keeps v xs h a =
      let e : (n - 1) * 1 ≡ n - 1 = omega arith in
      rw (refresh-turns s (n - 1) xs (omega (arith, a.words.size)))
      (subst (λ (k : ℕ). Gives (Shares s n v) (turns (turn s (n - 1)) 0 (n - 1) xs) (replicate k (bound s))) e
      (gives_turns (λ i. Shares s n v) (turn s (n - 1)) 1 (bound s) (n - 1) (λ i ys l b. turn_keeps (n - 1) i v ys (omega arith) (omega arith) b) 0 (n - 1) xs (omega arith) a))
