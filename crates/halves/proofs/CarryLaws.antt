-- What shares tell of how often they wrap around: over any modulus, width and number of shares, whatever the draws. The conversion to mod Q,
-- widening and Decompose cite it, and so can further moduli.
use mathlib.Core.Path.{◌≡◌, refl, sym, ap, subst, ◌∙◌}
use mathlib.Core.List.{List, [], ◌∷◌}
use Prim.Native.Nat.{ℕ, suc, ◌+◌, ◌-◌, ◌*◌, ◌/◌, ◌%◌, ◌^◌, ◌≤◌, ◌<◌}
use native.Mathlib.Nat.{mod-lt, mul_comm, mul-pos, mul-one, add-mul-div_right, div-add-mod', div-eq_of_lt}
use native.Mathlib.Omega.{arith}
use lib.Arith.{mod-mul, digits_div}
use lib.ListN.{length, get_or}
use lib.Pow.{pow_pos}
use Rattle.numbers.specs.Modulo.{add_mod, sub_mod}
use Rattle.numbers.specs.Lists.{Words, fold, sum, change, along}
use Rattle.numbers.proofs.Cong.{Cong, cong_by, cong_out, cong_eq, cong_mod, cong_add, cong_refl, cong_sym, cong_cancel, via, ◌⨾◌}
use Rattle.numbers.proofs.WordsLaws.{words_change}
use Rattle.numbers.proofs.AlongLaws.{length-along, along_at, along_same, words_along}
use Rattle.numbers.proofs.SumLaws.{Between, floors_between, sum_back, sum-scaled}
use Rattle.draws.specs.Draws.{done, bind}
use Rattle.draws.proofs.Outcomes.{Gives}
use Rattle.draws.proofs.PlanLaws.{gives_map}
use Rattle.shares.specs.Sharing.{arithmetic}
use Rattle.shares.proofs.SharingLaws.{Shares}
use Rattle.first.specs.First.{add_to_first}
use Rattle.halves.specs.Shift.{shift, shift_plan}
use Rattle.halves.proofs.FloorLaws.{shift_floor}
use Rattle.halves.specs.Carries.{floors, raised, raised_shift, carries, without}
use Rattle.halves.proofs.CarrySteps.{without_words}

-- ---- the floors, raised
sum-floors : (M c p : ℕ) (xs : List ℕ) → Cong M (sum (floors M c p xs)) (sum (along (λ i x. x * c / p) xs))
unfolding floors along sum fold
sum-floors M c p [] = cong_refl
sum-floors M c p (x ∷ xs) = cong_add cong_mod (sum-floors M c p xs)

sum-raised : (M d : ℕ) (xs : List ℕ) → length xs ≡ suc d → Cong M (sum (raised M xs)) (sum xs + d)
unfolding raised add_to_first change add_mod sum fold
sum-raised M d [] e = absurd (omega arith)
sum-raised M d (x ∷ xs) e =
    let less : suc (length xs) - 1 ≡ d = omega arith in
    via (x + (suc (length xs) - 1) + sum xs) (cong_add cong_mod cong_refl) (cong_eq (omega arith))

raised_words : {n M : ℕ} {xs : List ℕ} → 0 < M → Words n M xs → Words n M (raised M xs)
unfolding raised add_to_first add_mod
raised_words h w = words_change _ 0 w (mod-lt _ h)

floors_words : {n N : ℕ} (M c p : ℕ) {xs : List ℕ} → 0 < M → Words n N xs → Words n M (floors M c p xs)
unfolding floors
floors_words M c p h w = words_along _ w (λ i x l b. mod-lt _ h)

-- ---- the shift after them
-- the digits from the low end go before a remainder or after it
mod-div : (v : ℕ) {m T : ℕ} → 0 < m → 0 < T → v % (T * m) / T ≡ v / T % m
mod-div v {m} {T} hm hT = ap (λ (y : ℕ). v % y / T) (mul_comm T m) ∙ ap (λ (y : ℕ). y / T) (mod-mul v hm hT) ∙ digits_div (v / T % m) (mod-lt v hT)

-- of S = X + P-as-E shares, the floor of S·c/p with e added, shifted, is X's own and g times E, where P·c = p·2^t·g
split_floor : (c p T P g X E e : ℕ) → 0 < p → 0 < T → P * c ≡ p * T * g → ((X + P * E) * c / p + e) / T ≡ (X * c / p + e) / T + g * E
split_floor c p T P g X E e hp hT f =
    let inner : (X + P * E) * c ≡ X * c + T * (g * E) * p = omega (arith, ap (λ (y : ℕ). y * E) f) in
    let outer : X * c / p + T * (g * E) + e ≡ X * c / p + e + g * E * T = omega arith in
    ap (λ (y : ℕ). (y / p + e) / T) inner ∙ ap (λ (y : ℕ). (y + e) / T) (add-mul-div_right (X * c) (T * (g * E)) hp)
    ∙ ap (λ (y : ℕ). y / T) outer ∙ add-mul-div_right (X * c / p + e) (g * E) hT

-- shares of the carries, off by at most d
pub record Carried (d m t c p P g : ℕ) (xs : List ℕ) : Type 0 where
  pub off : ℕ
  pub most : off ≤ d
  pub shares : Gives (Shares (arithmetic m) (suc d) (((sum xs % P * c / p + off) / 2 ^ t + g * (sum xs / P)) % m)) (carries m t c p xs) (shift_plan m t (suc d))

-- the one law of modulus switching: the carries of d + 1 shares recombine to X's own floor, a little off, and g times the number of wraps
pub carries_give : {N : ℕ} (d m t c p P g : ℕ) (xs : List ℕ) → 0 < m → 0 < p → P * c ≡ p * 2 ^ t * g → Words (suc d) N xs → Carried d m t c p P g xs
unfolding carries raised_shift
carries_give d m t c p P g xs hm hp f w =
    let T : ℕ = 2 ^ t in
    let M : ℕ = T * m in
    let pos : 0 < M = mul-pos (pow_pos t) hm in
    let fs : List ℕ = floors M c p xs in
    let wf : Words (suc d) M fs = floors_words M c p pos w in
    let b : Between (sum xs * c / p) d (sum (along (λ i x. x * c / p) xs) + d) = floors_between c p d xs hp w.size in
    let e : ℕ = sum (along (λ i x. x * c / p) xs) + d - sum xs * c / p in
    let total : Cong M (sum (raised M fs)) (sum xs * c / p + e) =
    sum-raised M d fs wf.size ⨾ (cong_add (sum-floors M c p xs) cong_refl ⨾ cong_eq (omega (arith, b.least))) in
    let parts : sum xs ≡ sum xs % P + P * (sum xs / P) = omega (arith, div-add-mod' (sum xs) P) in
    let value : sum (raised M fs) % M / T ≡ ((sum xs % P * c / p + e) / T + g * (sum xs / P)) % m =
    ap (λ (y : ℕ). y / T) total.eq ∙ mod-div (sum xs * c / p + e) hm (pow_pos t)
    ∙ ap (λ (y : ℕ). (y * c / p + e) / T % m) parts ∙ ap (λ (y : ℕ). y % m) (split_floor c p T P g (sum xs % P) (sum xs / P) e hp (pow_pos t) f) in
    record {
      off = e;
      most = omega (arith, b.most);
      shares =
          subst (λ (v : ℕ). Gives (Shares (arithmetic m) (suc d) v) (shift m t (raised M fs)) (shift_plan m t (suc d))) value
          (shift_floor m t (suc d) (sum (raised M fs) % M) (raised M fs) hm (omega arith) (record { words = raised_words pos wf; is = refl }));
    }

-- ---- c·e_i taken off each share
sum-without : (M c : ℕ) (es xs : List ℕ) → 0 < M → length es ≡ length xs → Cong M (sum (without M c es xs) + c * sum es) (sum xs)
unfolding without
sum-without M c es xs h e =
    let ys : List ℕ = along (λ i x. c * x) es in
    let size : length ys ≡ length xs = length-along (λ i x. c * x) es ∙ e in
    let same : without M c es xs ≡ along (λ i x. sub_mod M x (get_or ys i 0)) xs =
    along_same _ _ xs (λ j l. ap (sub_mod M (get_or xs j 0)) (sym (along_at (λ i x. c * x) es j (omega arith)))) in
    cong_add (cong_eq (ap sum same)) (cong_eq (sym (sum-scaled c es))) ⨾ sum_back M h xs ys size

-- the exact carry: where X's own floor vanishes, they recombine to the number of wraps
pub carries_exact : {N : ℕ} (d m t c p P : ℕ) (xs : List ℕ) → 0 < m → 0 < p → P * c ≡ p * 2 ^ t → sum xs % P * c / p + d < 2 ^ t → Words (suc d) N xs →
    Gives (Shares (arithmetic m) (suc d) (sum xs / P % m)) (carries m t c p xs) (shift_plan m t (suc d))
carries_exact d m t c p P xs hm hp f small w =
    let a : Carried d m t c p P 1 xs = carries_give d m t c p P 1 xs hm hp (f ∙ sym (mul-one (p * 2 ^ t))) w in
    let none : (sum xs % P * c / p + a.off) / 2 ^ t ≡ 0 = div-eq_of_lt (omega (arith, a.most)) in
    let wraps : (sum xs % P * c / p + a.off) / 2 ^ t + 1 * (sum xs / P) ≡ sum xs / P = omega arith in
    subst (λ (v : ℕ). Gives (Shares (arithmetic m) (suc d) (v % m)) (carries m t c p xs) (shift_plan m t (suc d))) wraps a.shares

-- and taken off they leave X: from a sum modulo P to one modulo M, which divides P·m
pub switch_keeps : {N : ℕ} (d m t c p P M h : ℕ) (xs : List ℕ) → 0 < m → 0 < p → 0 < M → P * c ≡ p * 2 ^ t → P * m ≡ M * h → sum xs % P * c / p + d < 2 ^ t → Words (suc d) N xs →
    Gives (Shares (arithmetic M) (suc d) (sum xs % P % M)) (bind (carries m t c p xs) (λ es. done (without M P es xs))) (shift_plan m t (suc d))
switch_keeps d m t c p P M h xs hm hp hM f k small w =
    let X : ℕ = sum xs % P in
    let E : ℕ = sum xs / P in
    gives_map _ (λ es. without M P es xs) (carries_exact d m t c p P xs hm hp f small w)
    (λ es s.
    let wraps : Cong m (sum es) E = cong_sym cong_mod ⨾ (cong_eq s.is ⨾ cong_mod) in
    let scaled : Cong M (P * sum es) (P * E) =
    cong_by (E / m * h) (sum es / m * h) (omega (arith, ap (λ (y : ℕ). P * y) (cong_out wraps), ap (λ (y : ℕ). E / m * y) k, ap (λ (y : ℕ). sum es / m * y) k)) in
    let back : Cong M (sum (without M P es xs) + P * E) (X + P * E) =
    cong_add cong_refl (cong_sym scaled) ⨾ (sum-without M P es xs hM (s.words.size ∙ sym w.size) ⨾ cong_eq (omega (arith, div-add-mod' (sum xs) P))) in
    record { words = without_words M P es hM w; is = (cong_cancel (P * E) back).eq })
