-- The shift by t recombines to floor(x/2^t): over any n, m and t, whatever the draws.
use mathlib.Core.Path.{◌≡◌, ap, subst, ◌∙◌}
use mathlib.Core.List.{List}
use Prim.Native.Nat.{ℕ, zero, suc, ◌-◌, ◌*◌, ◌/◌, ◌^◌, ◌<◌}
use native.Mathlib.Nat.{div-one, div-div-eq-div-mul, pow-suc, one-mul, mul-pos}
use native.Mathlib.Omega.{arith}
use lib.ListN.{length, length-append}
use lib.Pow.{pow_pos}
use Rattle.draws.proofs.Outcomes.{Gives}
use Rattle.draws.proofs.PlanLaws.{gives_bind, gives_done}
use Rattle.shares.specs.Sharing.{arithmetic}
use Rattle.shares.proofs.SharingLaws.{Shares}
use Rattle.halves.specs.Halving.{halving_plan}
use Rattle.halves.proofs.HalvingGives.{halving_draws, halving_floor}
use Rattle.halves.specs.Shift.{shift, shift_plan}

pub shift_floor : (m t n v : ℕ) (xs : List ℕ) → 0 < m → 0 < n → Shares (arithmetic (2 ^ t * m)) n v xs → Gives (Shares (arithmetic m) n (v / 2 ^ t)) (shift m t xs) (shift_plan m t n)
unfolding shift shift_plan
shift_floor m zero n v xs hm h a =
    gives_done (rw div-one (subst (λ (k : ℕ). Shares (arithmetic k) n v xs) (one-mul m) a))
shift_floor m (suc t) n v xs hm h a =
    let wide : 2 ^ suc t * m ≡ 2 * (2 ^ t * m) = rw pow-suc (omega arith) in
    let floors : v / 2 / 2 ^ t ≡ v / 2 ^ suc t = div-div-eq-div-mul v 2 (2 ^ t) ∙ ap (λ (k : ℕ). v / k) (omega (arith, pow-suc 2 t)) in
    gives_bind (λ ys. shift m t ys) (shift_plan m t n)
    (halving_floor (2 ^ t * m) n v xs (mul-pos (pow_pos t) hm) h (subst (λ (k : ℕ). Shares (arithmetic k) n v xs) wide a))
    (λ ys b. subst (λ (u : ℕ). Gives (Shares (arithmetic m) n u) (shift m t ys) (shift_plan m t n)) floors (shift_floor m t n (v / 2) ys hm h b))

-- a shift by t makes t·(n - 1)² draws
pub shift_draws : (m t n : ℕ) → length (shift_plan m t n) ≡ t * ((n - 1) * (n - 1))
unfolding shift_plan
shift_draws m zero n = omega arith
shift_draws m (suc t) n = length-append (halving_plan (2 ^ t * m) n) (shift_plan m t n) ∙ rw (halving_draws (2 ^ t * m) n, shift_draws m t n) (omega arith)
