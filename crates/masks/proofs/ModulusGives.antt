-- The conversion of Boolean shares of width μ to mod Q keeps the value: over any Q, any number of shares and any width that leaves α bits,
-- whatever the draws.
use mathlib.Core.Path.{◌≡◌, sym, ap, subst, ◌∙◌}
use mathlib.Core.List.{List}
use Prim.Native.Nat.{ℕ, suc, ◌+◌, ◌-◌, ◌*◌, ◌/◌, ◌%◌, ◌^◌, ◌≤◌, ◌<◌}
use native.Mathlib.Nat.{mul_comm, mul-one, div-eq_of_lt}
use native.Mathlib.Omega.{arith}
use lib.Pow.{pow_pos, pow-add, pow_mono}
use Rattle.numbers.specs.Bits.{alpha}
use Rattle.numbers.specs.Lists.{Words, sum, xor_all}
use Rattle.numbers.proofs.BitsLaws.{alpha_smallest}
use Rattle.numbers.proofs.GroupLaws.{xors}
use Rattle.numbers.proofs.FoldLaws.{fold_below}
use Rattle.numbers.proofs.WordsLaws.{words_up}
use Rattle.draws.specs.Draws.{Draws, done, bind}
use Rattle.draws.proofs.Outcomes.{Gives}
use Rattle.draws.proofs.PlanLaws.{gives_bind}
use Rattle.shares.specs.Sharing.{arithmetic, boolean}
use Rattle.shares.proofs.SharingLaws.{Shares}
use Rattle.halves.specs.Shift.{shift_plan}
use Rattle.rules.proofs.ArithmeticGives.{to_arithmetic_keeps}
use Rattle.halves.specs.Carries.{carries, without}
use Rattle.masks.specs.ToModulus.{to_modulus, to_modulus_plan}
use Rattle.halves.proofs.CarryLaws.{switch_keeps}

pub to_modulus_keeps : (Q μ n v : ℕ) (xs : List ℕ) → 0 < Q → μ + alpha n ≤ 32 → 0 < n → Shares (boolean μ) n v xs → Gives (Shares (arithmetic Q) n (v % Q)) (to_modulus Q μ xs) (to_modulus_plan Q μ n)
unfolding to_modulus to_modulus_plan xor_all
to_modulus_keeps Q μ n v xs hQ h pos a =
    let α : ℕ = alpha n in
    let k : ℕ = μ + α in
    let d : ℕ = n - 1 in
    let one : suc d ≡ n = omega arith in
    let wide : 2 ^ k ≡ 2 ^ μ * 2 ^ α = pow-add 2 μ α in
    let small : v < 2 ^ μ = subst (λ (y : ℕ). y < 2 ^ μ) a.is (fold_below (xors μ) xs a.words) in
    let fewer : d < 2 ^ α = omega (arith, (alpha_smallest n).holds) in
    let b : Shares (boolean k) n v xs = record { words = words_up (pow_mono (omega arith)) a.words; is = a.is } in
    rw a.words.size
    (gives_bind _ (shift_plan Q α n) (to_arithmetic_keeps k n v xs h pos b)
    (λ ys c.
    let own : sum ys % 2 ^ k * 1 / 2 ^ μ ≡ 0 = ap (λ (y : ℕ). y / 2 ^ μ) (mul-one (sum ys % 2 ^ k) ∙ c.is) ∙ div-eq_of_lt small in
    let room : sum ys % 2 ^ k * 1 / 2 ^ μ + d < 2 ^ α = omega arith in
    let w : Words (suc d) (2 ^ k) ys = subst (λ (m : ℕ). Words m (2 ^ k) ys) (sym one) c.words in
    let rest : Draws (List ℕ) = bind (carries Q α 1 (2 ^ μ) ys) (λ es. done (without Q (2 ^ k) es ys)) in
    subst (λ (m : ℕ). Gives (Shares (arithmetic Q) m (v % Q)) rest (shift_plan Q α m)) one
    (subst (λ (y : ℕ). Gives (Shares (arithmetic Q) (suc d) (y % Q)) rest (shift_plan Q α (suc d))) c.is
    (switch_keeps d Q α 1 (2 ^ μ) (2 ^ k) Q (2 ^ k) ys hQ (pow_pos μ) hQ (mul-one (2 ^ k) ∙ wide) (mul_comm (2 ^ k) Q) room w))))
