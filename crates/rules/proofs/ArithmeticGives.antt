-- The rule recombines to the exclusive or of its shares: over any number of shares and any width up to 32, whatever the draws.
use mathlib.Core.Path.{◌≡◌, refl, sym, ap, subst, ◌∙◌}
use mathlib.Core.Bool.{Bool, true, false}
use mathlib.Core.List.{List, [], ◌∷◌, ◌++◌}
use Prim.Native.Nat.{ℕ, zero, suc, ◌+◌, ◌-◌, ◌*◌, ◌%◌, ◌^◌, ◌≤◌, ◌<◌}
use native.Mathlib.Nat.{pow-suc, mod-lt, mod-eq_of_lt}
use native.Mathlib.Omega.{arith}
use native.Mathlib.Decide.{ℕ_discrete}
use lib.ListN.{length, get_or, take, drop, replicate, replicate-append-replicate}
use lib.Dec.{eqb}
use lib.Pow.{pow_pos}
use lib.Seq.{length-take-le, take_all}
use borrow.Author.Tests.{eq-eqb, ne_eqb}
use Rattle.numbers.specs.Tests.{pick}
use Rattle.numbers.specs.Modulo.{add_mod, xor}
use Rattle.numbers.specs.Lists.{Words, fold, sum, xor_all, change, along}
use Rattle.numbers.proofs.Cong.{Cong, cong_eq, cong_mod, cong_add, cong_refl, cong_sym, via, ◌⨾◌}
use Rattle.numbers.proofs.XorLaws.{xor_comm, xor_self, xor_zero, zero_xor, xor_assoc, xor_below}
use Rattle.numbers.proofs.GroupLaws.{xors}
use Rattle.numbers.proofs.WordsLaws.{words_none, words_head, words_tail, words_cons, words_at, words_take, words_append}
use Rattle.numbers.proofs.FoldLaws.{fold_below}
use Rattle.numbers.proofs.SumLaws.{sum-append, sum_added, sum_more}
use Rattle.numbers.proofs.AlongLaws.{words_along}
use Rattle.draws.specs.Draws.{done, bind}
use Rattle.draws.proofs.Outcomes.{Gives}
use Rattle.draws.proofs.PlanLaws.{gives_bind, gives_map, gives_done}
use Rattle.shares.specs.Sharing.{arithmetic, boolean}
use Rattle.shares.specs.Refresh.{refresh_plan}
use Rattle.shares.proofs.SharingLaws.{Shares}
use Rattle.shares.proofs.RefreshLaws.{refresh_keeps}
use Rattle.rules.specs.Psi.{psi, psis, z_of, added}
use Rattle.rules.specs.Rule.{rule}
use Rattle.rules.specs.ToArithmetic.{to_arithmetic, to_arithmetic_plan}
use Rattle.rules.proofs.ListLaws.{z_words}
use Rattle.rules.proofs.PsiLaws.{psi-add, psi_affine}

-- ---- Z recombines to Ψ of x and what U recombines to
-- what is combined into the first of Z, of s shares
abbrev extra : ℕ → ℕ → ℕ
extra s x = pick (eqb (s % 2) 1) x 0

-- x, combined with that for s shares, is that for s + 1
extra_more : (s x : ℕ) → xor x (extra s x) ≡ extra (suc s) x
extra_more s x = go (ℕ_discrete (s % 2) 1)
  where
    go : Dec (s % 2 ≡ 1) → xor x (extra s x) ≡ extra (suc s) x
    go (yes e) = rw (eq-eqb (s % 2) 1 e, ne_eqb (suc s % 2) 1 (omega arith)) (xor_self x)
    go (no n) = let odd : suc s % 2 ≡ 1 = omega (arith, n) in rw (ne_eqb (s % 2) 1 n, eq-eqb (suc s % 2) 1 odd) (xor_zero x)

regroup : (x p e w : ℕ) → xor x (xor p (xor e w)) ≡ xor (xor x e) (xor p w)
regroup x p e w =
    ap (xor x) (sym (xor_assoc p e w) ∙ ap (λ a. xor a w) (xor_comm p e) ∙ xor_assoc e p w) ∙ sym (xor_assoc x e (xor p w))

psi_all : (k x u : ℕ) (us : List ℕ) → k ≤ 32 → x < 2 ^ k → psi k x (xor_all (u ∷ us)) ≡ xor (extra (suc (suc (length us))) x) (xor_all (psis k x (u ∷ us)))
unfolding xor_all fold psis along
psi_all k x u [] h hx = ap (psi k x) (xor_zero u) ∙ sym (zero_xor (xor (psi k x u) 0) ∙ xor_zero (psi k x u))
psi_all k x u (v ∷ us) h hx =
    let w : ℕ = xor_all (psis k x (v ∷ us)) in
    psi_affine k x u (xor_all (v ∷ us)) h hx ∙ ap (λ y. xor x (xor (psi k x u) y)) (psi_all k x v us h hx)
    ∙ regroup x (psi k x u) (extra (suc (suc (length us))) x) w
    ∙ ap (λ y. xor y (xor (psi k x u) w)) (extra_more (suc (suc (length us))) x)

z_all : (k s x u : ℕ) (us : List ℕ) → xor_all (z_of k s x (u ∷ us)) ≡ xor (extra s x) (xor_all (psis k x (u ∷ us)))
unfolding z_of psis along change xor_all fold
z_all k s x u us = go (eqb (s % 2) 1)
  where
    rest : ℕ
    rest = xor_all (along (λ j y. psi k x y) us)

    go : (t : Bool) → xor_all (pick t (change (λ z. xor z x) 0 (psis k x (u ∷ us))) (psis k x (u ∷ us))) ≡ xor (pick t x 0) (xor (psi k x u) rest)
    go true = ap (λ y. xor y rest) (xor_comm (psi k x u) x) ∙ xor_assoc x (psi k x u) rest
    go false = sym (zero_xor (xor (psi k x u) rest))

pub z_recombines : (k x u : ℕ) (us : List ℕ) → k ≤ 32 → x < 2 ^ k → xor_all (z_of k (suc (suc (length us))) x (u ∷ us)) ≡ psi k x (xor_all (u ∷ us))
z_recombines k x u us h hx = z_all k (suc (suc (length us))) x u us ∙ sym (psi_all k x u us h hx)

-- ---- the results added keep the sum
module _ {n M : ℕ} (pos : 0 < M) {us zs : List ℕ} (wu : Words (suc n) M us) (wz : Words (suc n) M zs) where
  abbrev ends : List ℕ
  ends = get_or us n 0 ∷ get_or zs n 0 ∷ []

  added_at : added M us zs ≡ along (λ j u. add_mod M u (get_or zs j 0)) (take n us) ++ ends
  unfolding added
  added_at = let e : length us - 1 ≡ n = omega (arith, wu.size) in rw e

  added_words : Words (suc (suc n)) M (added M us zs)
  unfolding add_mod
  added_words =
      let front : Words n M (along (λ j u. add_mod M u (get_or zs j 0)) (take n us)) = words_along _ (words_take n (omega arith) wu) (λ i x l h. mod-lt _ pos) in
      let back : Words 2 M ends = words_cons (words_at pos wu n) (words_cons (words_at pos wz n) words_none) in
      let two : n + 2 ≡ suc (suc n) = omega arith in
      subst (λ xs. Words (suc (suc n)) M xs) (sym added_at) (subst (λ (m : ℕ). Words m M (along (λ j u. add_mod M u (get_or zs j 0)) (take n us) ++ ends)) two (words_append _ front back))

  all_of : {xs : List ℕ} → Words (suc n) M xs → sum (take n xs) + get_or xs n 0 ≡ sum xs
  all_of {xs} w = sym (sum_more xs n (omega (arith, w.size))) ∙ ap sum (take_all (suc n) xs (omega (arith, w.size)))

  pub added-sum : Cong M (sum (added M us zs)) (sum us + sum zs)
  unfolding sum fold
  added-sum =
      let front : List ℕ = along (λ j u. add_mod M u (get_or zs j 0)) (take n us) in
      let size : length (take n us) ≡ n = length-take-le n us (omega (arith, wu.size)) in
      cong_eq (ap sum added_at ∙ sum-append front ends)
      ⨾ via (sum (take n us) + sum (take n zs) + (get_or us n 0 + (get_or zs n 0 + 0)))
      (cong_add (subst (λ (m : ℕ). Cong M (sum front) (sum (take n us) + sum (take m zs))) size (sum_added M (take n us) zs (omega (arith, size, wz.size)))) cong_refl)
      (cong_eq (omega (arith, all_of wu, all_of wz)))

-- ---- the rule
-- what it draws, on two shares and j more
unfoldable rule_draws : ℕ → ℕ
rule_draws j = 3 * 2 ^ j - j - 3

pub draws_fit : (j : ℕ) → j + 3 ≤ 3 * 2 ^ j
draws_fit zero = omega arith
draws_fit (suc j) = rw pow-suc (omega (arith, draws_fit j))

draws_more : (j : ℕ) → suc (suc j) + (rule_draws j + rule_draws j) ≡ rule_draws (suc j)
unfolding rule_draws
draws_more j = rw pow-suc (omega (arith, draws_fit j))

unfoldable rule_plan : ℕ → ℕ → List ℕ
rule_plan k j = replicate (rule_draws j) (2 ^ k)

plan_more : (k j : ℕ) → refresh_plan (boolean k) (suc (suc (suc j))) ++ (rule_plan k j ++ rule_plan k j) ≡ rule_plan k (suc j)
unfolding refresh_plan rule_plan
plan_more k j =
    let fewer : suc (suc (suc j)) - 1 ≡ suc (suc j) = omega arith in
    rw (fewer, replicate-append-replicate (rule_draws j) (rule_draws j) (2 ^ k), replicate-append-replicate (suc (suc j)) (rule_draws j + rule_draws j) (2 ^ k), draws_more j)

-- x and us, refreshed: the results of U and Z add up to their exclusive or
joined-value : (k v x w su sz : ℕ) → k ≤ 32 → v < 2 ^ k → xor x w ≡ v → su % 2 ^ k ≡ w → sz % 2 ^ k ≡ psi k x w → Cong (2 ^ k) (su + sz) v
joined-value k v x w su sz h hv e u z =
    via (w + psi k x w) (cong_add (cong_sym cong_mod ⨾ cong_eq u) (cong_sym cong_mod ⨾ cong_eq z)) (cong_eq (omega arith) ⨾ (psi-add k x w h ⨾ cong_eq e))

abbrev Keeps : ℕ → ℕ → Type 0
Keeps k j = (v : ℕ) (xs : List ℕ) → Shares (boolean k) (suc (suc j)) v xs → Gives (Shares (arithmetic (2 ^ k)) (suc j) v) (rule k j xs) (rule_plan k j)

refreshed_keeps : (k j v : ℕ) → k ≤ 32 → Keeps k j → (ys : List ℕ) → Shares (boolean k) (suc (suc (suc j))) v ys →
    Gives (Shares (arithmetic (2 ^ k)) (suc (suc j)) v)
    (bind (rule k j (drop 1 ys)) (λ us. bind (rule k j (z_of k (length ys) (get_or ys 0 0) (drop 1 ys))) (λ zs. done (added (2 ^ k) us zs)))) (rule_plan k j ++ rule_plan k j)
unfolding xor_all fold
refreshed_keeps k j v h keeps [] b = absurd (omega (arith, b.words.size))
refreshed_keeps k j v h keeps (x ∷ []) b = absurd (omega (arith, b.words.size))
refreshed_keeps k j v h keeps (x ∷ u ∷ us) b =
    let w : ℕ = xor_all (u ∷ us) in
    let hx : x < 2 ^ k = words_head b.words in
    let wu : Words (suc (suc j)) (2 ^ k) (u ∷ us) = words_tail b.words in
    let hv : v < 2 ^ k = subst (λ (y : ℕ). y < 2 ^ k) b.is (fold_below (xors k) (x ∷ u ∷ us) b.words) in
    let zs : Shares (boolean k) (suc (suc j)) (psi k x w) (z_of k (length (x ∷ u ∷ us)) x (u ∷ us)) =
    record { words = z_words k (length (x ∷ u ∷ us)) x hx wu; is = z_recombines k x u us h hx } in
    gives_bind _ (rule_plan k j) (keeps w (u ∷ us) (record { words = wu; is = refl }))
    (λ rs c. gives_map _ (λ ss. added (2 ^ k) rs ss) (keeps (psi k x w) (z_of k (length (x ∷ u ∷ us)) x (u ∷ us)) zs)
    (λ ss d. record {
      words = added_words (pow_pos k) c.words d.words;
      is = (added-sum (pow_pos k) c.words d.words ⨾ joined-value k v x w (sum rs) (sum ss) h hv b.is c.is d.is).eq ∙ mod-eq_of_lt hv;
    }))

pub rule_keeps : (k j v : ℕ) (xs : List ℕ) → k ≤ 32 → Shares (boolean k) (suc (suc j)) v xs → Gives (Shares (arithmetic (2 ^ k)) (suc j) v) (rule k j xs) (replicate (3 * 2 ^ j - j - 3) (2 ^ k))
unfolding rule rule_plan rule_draws xor_all fold sum
rule_keeps k zero v [] h a = absurd (omega (arith, a.words.size))
rule_keeps k zero v (x ∷ []) h a = absurd (omega (arith, a.words.size))
rule_keeps k zero v (x ∷ y ∷ z ∷ xs) h a = absurd (omega (arith, a.words.size))
rule_keeps k zero v (x ∷ y ∷ []) h a =
    let e : xor x y ≡ v = ap (xor x) (sym (xor_zero y)) ∙ a.is in
    let small : xor x y < 2 ^ k = xor_below k x y (words_head a.words) (words_head (words_tail a.words)) in
    gives_done (record { words = words_cons small words_none; is = ap (λ (n : ℕ). n % 2 ^ k) (omega arith) ∙ mod-eq_of_lt small ∙ e })
rule_keeps k (suc j) v xs h a =
    subst (Gives _ _) (plan_more k j)
    (gives_bind _ (rule_plan k j ++ rule_plan k j) (refresh_keeps (boolean k) (pow_pos k) v xs (omega arith) a) (refreshed_keeps k j v h (λ w ys. rule_keeps k j w ys h)))

-- ---- the conversion
append_zero : (k v n : ℕ) (xs : List ℕ) → Shares (boolean k) n v xs → Shares (boolean k) (suc n) v (xs ++ (0 ∷ []))
unfolding xor_all fold
append_zero k v n xs a =
    record {
      words = subst (λ (m : ℕ). Words m (2 ^ k) (xs ++ (0 ∷ []))) one (words_append xs a.words (words_cons (pow_pos k) words_none));
      is = same xs ∙ a.is;
    }
  where
    one : n + 1 ≡ suc n
    one = omega arith

    same : (ys : List ℕ) → xor_all (ys ++ (0 ∷ [])) ≡ xor_all ys
    same [] = xor_zero 0
    same (y ∷ ys) = ap (xor y) (same ys)

-- it keeps the value, with 3·2^d − n − 2 draws
pub to_arithmetic_keeps : (k n v : ℕ) (xs : List ℕ) → k ≤ 32 → 0 < n → Shares (boolean k) n v xs → Gives (Shares (arithmetic (2 ^ k)) n v) (to_arithmetic k xs) (to_arithmetic_plan k n)
unfolding to_arithmetic to_arithmetic_plan rule_plan rule_draws
to_arithmetic_keeps k n v xs h pos a =
    let d : ℕ = n - 1 in
    let size : length xs - 1 ≡ d = ap (λ (m : ℕ). m - 1) a.words.size in
    let one : suc d ≡ n = omega arith in
    let count : 3 * 2 ^ d - d - 3 ≡ 3 * 2 ^ d - n - 2 = omega arith in
    let b : Shares (boolean k) (suc (suc d)) v (xs ++ (0 ∷ [])) = subst (λ (m : ℕ). Shares (boolean k) (suc m) v (xs ++ (0 ∷ []))) (sym one) (append_zero k v n xs a) in
    rw size
    (subst (λ (c : ℕ). Gives (Shares (arithmetic (2 ^ k)) n v) (rule k d (xs ++ (0 ∷ []))) (replicate c (2 ^ k))) count
    (subst (λ (m : ℕ). Gives (Shares (arithmetic (2 ^ k)) m v) (rule k d (xs ++ (0 ∷ []))) (rule_plan k d)) one (rule_keeps k d v (xs ++ (0 ∷ [])) h b)))
