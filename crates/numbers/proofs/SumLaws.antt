-- Laws of sums of words.
use mathlib.Core.Path.{◌≡◌, refl}
use mathlib.Core.List.{List, [], ◌∷◌, ◌++◌}
use Prim.Native.Nat.{ℕ, zero, suc, ◌+◌, ◌*◌, ◌/◌, ◌%◌, ◌≤◌, ◌<◌}
use native.Mathlib.Omega.{arith}
use native.Mathlib.Nat.{le_of_suc-le-suc, div-mul-le_self, lt-div-mul-add, div-lt_iff_lt-mul, le-div_iff_mul-le}
use lib.ListN.{length, get_or, take, replicate}
use Rattle.numbers.specs.Modulo.{add_mod, sub_mod, neg_mod}
use Rattle.numbers.specs.Lists.{fold, sum, along}
use Rattle.numbers.proofs.Cong.{Cong, cong_eq, cong_mod, cong_refl, cong_add, via}
use Rattle.numbers.proofs.GroupLaws.{sub_back}
use Rattle.numbers.proofs.FoldLaws.{fold_zeros}

pub sum_zeros : (k : ℕ) → sum (replicate k 0) ≡ 0
unfolding sum
sum_zeros k = fold_zeros ◌+◌ refl k

-- the first i + 1 words
pub sum_more : (xs : List ℕ) (i : ℕ) → i < length xs → sum (take (suc i) xs) ≡ sum (take i xs) + get_or xs i 0
unfolding sum fold
sum_more [] i h = absurd (omega arith)
sum_more (x ∷ xs) zero h = omega arith
sum_more (x ∷ xs) (suc i) h = let e = sum_more xs i (le_of_suc-le-suc h) in omega arith

-- word by word: what is taken from each word, put back
pub sum_back : (M : ℕ) → 0 < M → (xs ys : List ℕ) → length ys ≡ length xs → Cong M (sum (along (λ i x. sub_mod M x (get_or ys i 0)) xs) + sum ys) (sum xs)
unfolding along sum fold
sum_back M h [] [] e = cong_refl
sum_back M h [] (y ∷ ys) e = absurd (omega arith)
sum_back M h (x ∷ xs) [] e = absurd (omega arith)
sum_back M h (x ∷ xs) (y ∷ ys) e =
    via (sub_mod M x y + y + (sum (along (λ i x. sub_mod M x (get_or ys i 0)) xs) + sum ys)) (cong_eq (omega arith)) (cong_add (sub_back M x y h) (sum_back M h xs ys (omega arith)))

-- word by word negated
pub sum-negated : (M : ℕ) → 0 < M → (xs : List ℕ) → Cong M (sum (along (λ i x. neg_mod M x) xs) + sum xs) 0
unfolding along sum fold neg_mod
sum-negated M h [] = cong_refl
sum-negated M h (x ∷ xs) =
    via (sub_mod M 0 x + x + (sum (along (λ i x. neg_mod M x) xs) + sum xs)) (cong_eq (omega arith)) (cong_add (sub_back M 0 x h) (sum-negated M h xs))

-- where all words but the last are even, the last has the parity of the sum
pub sum-parity : (d : ℕ) (xs : List ℕ) → length xs ≡ suc d → ((j : ℕ) → j < d → get_or xs j 0 % 2 ≡ 0) → sum xs % 2 ≡ get_or xs d 0 % 2
unfolding sum fold
sum-parity d [] e h = absurd (omega arith)
sum-parity zero (x ∷ []) e h = omega arith
sum-parity zero (x ∷ y ∷ xs) e h = absurd (omega arith)
sum-parity (suc d) (x ∷ xs) e h = omega (arith, sum-parity d xs (omega arith) (λ j l. h (suc j) (omega arith)), h 0 (omega arith))

-- the sum of even words is twice that of their halves
pub sum-halves : (xs : List ℕ) → ((j : ℕ) → j < length xs → get_or xs j 0 % 2 ≡ 0) → sum xs ≡ 2 * sum (along (λ i x. x / 2) xs)
unfolding along sum fold
sum-halves [] h = refl
sum-halves (x ∷ xs) h = omega (arith, sum-halves xs (λ j l. h (suc j) (omega arith)), h 0 (omega arith))

pub sum-append : (xs ys : List ℕ) → sum (xs ++ ys) ≡ sum xs + sum ys
unfolding sum fold
sum-append [] ys = omega arith
sum-append (x ∷ xs) ys = omega (arith, sum-append xs ys)

-- another list added share by share
pub sum_added : (M : ℕ) (xs ys : List ℕ) → length xs ≤ length ys → Cong M (sum (along (λ i x. add_mod M x (get_or ys i 0)) xs)) (sum xs + sum (take (length xs) ys))
unfolding sum fold along add_mod
sum_added M [] ys h = cong_eq (omega arith)
sum_added M (x ∷ xs) [] h = absurd (omega arith)
sum_added M (x ∷ xs) (y ∷ ys) h = via (x + y + (sum xs + sum (take (length xs) ys))) (cong_add cong_mod (sum_added M xs ys (le_of_suc-le-suc h))) (cong_eq (omega arith))

-- a multiple of each word
pub sum-scaled : (c : ℕ) (xs : List ℕ) → sum (along (λ i x. c * x) xs) ≡ c * sum xs
unfolding sum fold along
sum-scaled c [] = omega arith
sum-scaled c (x ∷ xs) = omega (arith, sum-scaled c xs)

-- ---- floors: a sum of n floors loses less than n
floor_low : (c p : ℕ) (xs : List ℕ) → sum (along (λ i x. x * c / p) xs) * p ≤ sum xs * c
unfolding sum fold along
floor_low c p [] = omega arith
floor_low c p (x ∷ xs) = omega (arith, floor_low c p xs, div-mul-le_self (x * c) p)

floor_high : (c p : ℕ) (xs : List ℕ) → 0 < p → sum xs * c + length xs ≤ sum (along (λ i x. x * c / p) xs) * p + length xs * p
unfolding sum fold along
floor_high c p [] h = omega arith
floor_high c p (x ∷ xs) h = omega (arith, floor_high c p xs h, lt-div-mul-add {a = x * c} h)

-- x lies between low and low + d
pub record Between (low d x : ℕ) : Type 0 where
  pub least : low ≤ x
  pub most : x ≤ low + d

-- the floors of d + 1 numbers and d lie between the floor of the sum and that plus d
pub floors_between : (c p d : ℕ) (xs : List ℕ) → 0 < p → length xs ≡ suc d → Between (sum xs * c / p) d (sum (along (λ i x. x * c / p) xs) + d)
floors_between c p d xs h e =
    let F : ℕ = sum (along (λ i x. x * c / p) xs) in
    let high : sum xs * c + suc d ≤ F * p + suc d * p = rw e at (floor_high c p xs h) in
    let below : sum xs * c / p < suc (F + d) = (div-lt_iff_lt-mul h).1 (omega arith) in
    let above : F ≤ sum xs * c / p = (le-div_iff_mul-le h).1 (floor_low c p xs) in
    record { least = omega arith; most = omega arith }
