-- Laws of lists of words below M.
use mathlib.Core.Path.{◌≡◌, refl, sym, ap, subst, ◌∙◌}
use mathlib.Core.List.{List, [], ◌∷◌, ◌++◌}
use Prim.Native.Nat.{ℕ, zero, suc, ◌+◌, ◌≤◌, ◌<◌, suc-le-suc}
use native.Mathlib.Nat.{le_of_suc-le-suc}
use native.Mathlib.Numerals.{add-one}
use native.Mathlib.Omega.{arith}
use native.Mathlib.Decide.{dec_lt, ℕ_discrete}
use lib.ListN.{length, get_or, set, take, drop, replicate, length-set, length-replicate, get_or-replicate, get_or-eq_default}
use lib.Seq.{length-take-le, take-nil, get_or-set_same, get_or-set_other, get_or-take, take-set-lt, take-suc, take-suc-set}
use Rattle.numbers.specs.Lists.{Words, change}

pub words_none : {M : ℕ} → Words 0 M []
words_none = record { size = refl; below = λ i h. absurd (omega arith) }

pub words_head : {k M x : ℕ} {xs : List ℕ} → Words (suc k) M (x ∷ xs) → x < M
words_head w = w.below 0 (omega arith)

pub words_tail : {k M x : ℕ} {xs : List ℕ} → Words (suc k) M (x ∷ xs) → Words k M xs
words_tail {k} {xs = xs} w = let e : suc (length xs) ≡ suc k = w.size in record { size = omega arith; below = λ i h. w.below (suc i) (suc-le-suc h) }

pub words_cons : {k M x : ℕ} {xs : List ℕ} → x < M → Words k M xs → Words (suc k) M (x ∷ xs)
words_cons {k} {M} {x} {xs} h w = record { size = ap suc w.size; below = go }
  where
    go : (i : ℕ) → i < suc k → get_or (x ∷ xs) i 0 < M
    go zero l = h
    go (suc i) l = w.below i (le_of_suc-le-suc l)

-- the first n of them, and all but the first
pub words_take : {m M : ℕ} {xs : List ℕ} (n : ℕ) → n ≤ m → Words m M xs → Words n M (take n xs)
words_take {M = M} {xs} n h w =
    record { size = length-take-le n xs (omega (arith, w.size)); below = λ i l. subst (λ (x : ℕ). x < M) (sym (get_or-take n xs i 0 l)) (w.below i (omega arith)) }

pub words_drop : {n M : ℕ} {xs : List ℕ} → Words (suc n) M xs → Words n M (drop 1 xs)
words_drop {xs = []} w = absurd (let e : 0 ≡ suc _ = w.size in omega arith)
words_drop {xs = x ∷ xs} w = words_tail w

pub words_append : {a b M : ℕ} (xs : List ℕ) {ys : List ℕ} → Words a M xs → Words b M ys → Words (a + b) M (xs ++ ys)
words_append {a} {b} {M} [] {ys} w v = let none : b ≡ a + b = omega (arith, w.size) in subst (λ (n : ℕ). Words n M ys) none v
words_append {a} {b} {M} (x ∷ xs) {ys} w v =
    let one : a ≡ suc (length xs) = sym w.size in
    let u : Words (suc (length xs)) M (x ∷ xs) = subst (λ (n : ℕ). Words n M (x ∷ xs)) one w in
    let more : suc (length xs + b) ≡ a + b = omega arith in
    subst (λ (n : ℕ). Words n M (x ∷ (xs ++ ys))) more (words_cons (words_head u) (words_append xs (words_tail u) v))

-- past its end a list reads 0
pub words_at : {n M : ℕ} {xs : List ℕ} → 0 < M → Words n M xs → (i : ℕ) → get_or xs i 0 < M
words_at {n} {M} {xs} h w i = go (dec_lt i n)
  where
    go : Dec (i < n) → get_or xs i 0 < M
    go (yes l) = w.below i l
    go (no l) = let e : get_or xs i 0 ≡ 0 = get_or-eq_default xs 0 (omega (arith, w.size)) in omega arith

pub words_set : {n M : ℕ} {xs : List ℕ} → Words n M xs → (i : ℕ) {v : ℕ} → v < M → Words n M (set xs i v)
words_set {n} {M} {xs} w i {v} h = record { size = length-set xs i v ∙ w.size; below = λ j l. go j l (ℕ_discrete j i) }
  where
    go : (j : ℕ) → j < n → Dec (j ≡ i) → get_or (set xs i v) j 0 < M
    go j l (yes e) = let x : get_or (set xs i v) i 0 ≡ v = get_or-set_same xs i v 0 (omega (arith, w.size)) in rw (e, x) h
    go j l (no e) = rw (get_or-set_other xs i j v 0 e) (w.below j l)

pub words_up : {n M N : ℕ} {xs : List ℕ} → M ≤ N → Words n M xs → Words n N xs
words_up h w = record { size = w.size; below = λ i l. omega (arith, w.below i l) }

pub words_same : {n M v : ℕ} → v < M → Words n M (replicate n v)
words_same {n} {v = v} h = record { size = length-replicate n v; below = λ i l. rw (get_or-replicate n i v 0 l) h }

pub take-replicate : (n k a : ℕ) → n ≤ k → take n (replicate k a) ≡ replicate n a
take-replicate zero k a h = refl
take-replicate (suc n) zero a h = absurd (omega arith)
take-replicate (suc n) (suc k) a h = ap (a ∷◌) (take-replicate n k a (le_of_suc-le-suc h))

-- the list f 0, f 1, .. of k numbers
pub table : (ℕ → ℕ) → ℕ → List ℕ
table f zero = []
table f (suc k) = f 0 ∷ table (λ i. f (suc i)) k

table_length : (f : ℕ → ℕ) (k : ℕ) → length (table f k) ≡ k
unfolding table
table_length f zero = refl
table_length f (suc k) = ap suc (table_length (λ i. f (suc i)) k)

pub table_at : (f : ℕ → ℕ) (k i : ℕ) → i < k → get_or (table f k) i 0 ≡ f i
unfolding table
table_at f zero i h = absurd (omega arith)
table_at f (suc k) zero h = refl
table_at f (suc k) (suc i) h = table_at (λ i. f (suc i)) k i (le_of_suc-le-suc h)

pub words_table : {M : ℕ} (f : ℕ → ℕ) (k : ℕ) → ((i : ℕ) → f i < M) → Words k M (table f k)
words_table f k h = record { size = table_length f k; below = λ i l. rw (table_at f k i l) (h i) }

-- ---- one word changed
pub length-change : (f : ℕ → ℕ) (i : ℕ) (xs : List ℕ) → length (change f i xs) ≡ length xs
unfolding change
length-change f i xs = length-set xs i (f (get_or xs i 0))

pub change_here : (f : ℕ → ℕ) (i : ℕ) (xs : List ℕ) → i < length xs → get_or (change f i xs) i 0 ≡ f (get_or xs i 0)
unfolding change
change_here f i xs h = get_or-set_same xs i (f (get_or xs i 0)) 0 h

pub change_other : (f : ℕ → ℕ) (i : ℕ) (xs : List ℕ) (j : ℕ) → ¬ (j ≡ i) → get_or (change f i xs) j 0 ≡ get_or xs j 0
unfolding change
change_other f i xs j n = get_or-set_other xs i j (f (get_or xs i 0)) 0 n

-- the first n of the words, one of them changed
pub take-change : (f : ℕ → ℕ) (n i : ℕ) (xs : List ℕ) → i < n → take n (change f i xs) ≡ change f i (take n xs)
unfolding change
take-change f n i xs h = take-set-lt n xs i (f (get_or xs i 0)) h ∙ ap (λ (x : ℕ). set (take n xs) i (f x)) (sym (get_or-take n xs i 0 h))

pub words_change : {n M : ℕ} {xs : List ℕ} (f : ℕ → ℕ) (i : ℕ) → Words n M xs → f (get_or xs i 0) < M → Words n M (change f i xs)
unfolding change
words_change f i w h = words_set w i h

-- the first n of all but the first
pub take_rest : (n : ℕ) (xs : List ℕ) → take n (drop 1 xs) ≡ drop 1 (take (suc n) xs)
take_rest n [] = take-nil n
take_rest n (x ∷ xs) = refl

-- a list copied from the front: one word more
pub copy_more : (xs ws : List ℕ) (i : ℕ) → i < length xs → i < length ws → take i ws ≡ take i xs → take (i + 1) (set ws i (get_or xs i 0)) ≡ take (i + 1) xs
copy_more xs ws i h l e =
    rw add-one (take-suc-set ws i (get_or xs i 0) l ∙ ap (λ (x : List ℕ). x ++ (get_or xs i 0 ∷ [])) e ∙ sym (take-suc xs i 0 h))
