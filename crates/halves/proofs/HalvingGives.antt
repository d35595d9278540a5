-- What the shares recombine to: the shared parity to the parity of the value; after the moves every share is even; a halving to floor(x/2).
-- Over any n and m, whatever the draws.
use mathlib.Core.Path.{◌≡◌, sym, ap, subst, ◌∙◌}
use mathlib.Core.List.{List, ◌∷◌}
use Prim.Native.Nat.{ℕ, zero, suc, ◌+◌, ◌-◌, ◌*◌, ◌/◌, ◌%◌, ◌≤◌, ◌<◌}
use native.Mathlib.Nat.{div-add-mod', mod-lt, mod-eq_of_lt}
use native.Mathlib.Omega.{arith}
use native.Mathlib.Decide.{ℕ_discrete}
use lib.ListN.{length, get_or, take, replicate, length-replicate}
use lib.Seq.{take_all}
use lib.Dec.{eqb}
use Rattle.numbers.specs.Tests.{pick}
use Rattle.numbers.specs.Modulo.{add_mod}
use Rattle.numbers.specs.Lists.{Words, fold, sum, along}
use Rattle.numbers.proofs.Cong.{Cong, cong_by, cong_eq, cong_refl, cong_sym, cong_mod, cong_add, cong_cancel, via, ◌⨾◌}
use Rattle.numbers.proofs.GroupLaws.{sums}
use Rattle.numbers.proofs.WordsLaws.{words_cons, words_same}
use Rattle.numbers.proofs.FoldLaws.{fold-sum, fold-add}
use Rattle.numbers.proofs.SumLaws.{sum_zeros, sum_more, sum_back, sum-negated, sum-parity, sum-halves}
use Rattle.draws.specs.Draws.{turns, each}
use Rattle.draws.proofs.Outcomes.{Gives}
use Rattle.draws.proofs.PlanLaws.{gives_map, gives_turns}
use Rattle.shares.specs.Sharing.{arithmetic, negated}
use Rattle.shares.specs.Refresh.{refresh_plan}
use Rattle.shares.proofs.SharingLaws.{Shares}
use Rattle.shares.proofs.RefreshLaws.{refresh_keeps}
use Rattle.halves.specs.Halving.{parity, join, join_turn, shared_parity, less, evened, halves, halving, halving_plan}
use Rattle.halves.specs.AtOnce.{signed}
use Rattle.halves.proofs.ParityLaws.{signed_is, signed_words, join-signed, join_words}
use Rattle.halves.proofs.EvenLaws.{evened_keeps, evened_even}
use Rattle.halves.proofs.HalvingLaws.{less_words, halves_words}

-- ---- the shared parity
-- where the shares recombine to a bit c: with the sign of a parity p, and p added, they are the bit of c + p
signed-sum : {M : ℕ} → 2 ≤ M → (p c : ℕ) (ps : List ℕ) → p < 2 → c < 2 → sum ps % M ≡ c → Cong M (sum (pick (eqb p 1) (negated M ps) ps) + p) ((c + p) % 2)
unfolding negated
signed-sum {M} two zero c ps hp hc e = cong_add (record { eq = e ∙ sym (mod-eq_of_lt (omega arith)) }) cong_refl ⨾ cong_eq (omega arith)
signed-sum {M} two (suc zero) c ps hp hc e =
    cong_cancel c
    (via (sum (negated M ps) + sum ps + 1) (cong_add (cong_refl {a = sum (negated M ps) + 1}) (record { eq = mod-eq_of_lt (omega arith) ∙ sym e }) ⨾ cong_eq (omega arith))
    (cong_add (sum-negated M (omega arith) ps) cong_refl ⨾ cong_eq (omega arith)))
signed-sum two (suc (suc p)) c ps hp hc e = absurd (omega arith)

module _ {n M : ℕ} (two : 2 ≤ M) where
  join_keeps : (p c : ℕ) (ps : List ℕ) → p < 2 → c < 2 → 0 < n → Shares (arithmetic M) n c ps → Shares (arithmetic M) n ((c + p) % 2) (join M p ps)
  unfolding add_mod
  join_keeps p c ps hp hc h a =
      let turned : List ℕ = along (λ i x. signed M p x) ps in
      let w = signed_words M p (omega arith) a.words in
      record {
        words = join_words M p two hp a.words;
        is =
            sym (fold-sum M (omega arith) (join M p ps)) ∙ ap (fold (add_mod M)) (join-signed M p ps)
            ∙ fold-add (sums M (omega arith)) 0 p turned (omega arith) w (omega (arith, w.size))
            ∙ last (fold (add_mod M) turned) (sum (pick (eqb p 1) (negated M ps) ps)) (fold-sum M (omega arith) turned ∙ ap (λ (l : List ℕ). sum l % M) (signed_is M p ps))
            (signed-sum two p c ps hp hc a.is);
      }
    where
      last : (x s : ℕ) → x ≡ s % M → Cong M (s + p) ((c + p) % 2) → add_mod M x p ≡ (c + p) % 2
      last x s e k = (cong_add (cong_eq e ⨾ cong_mod) cong_refl ⨾ k).eq ∙ mod-eq_of_lt (omega arith)

  -- the parity of one share more
  turn_keeps : (xs : List ℕ) (i : ℕ) (ps : List ℕ) → 0 < n → i < length xs → Shares (arithmetic M) n (sum (take i xs) % 2) ps →
      Gives (Shares (arithmetic M) n (sum (take (suc i) xs) % 2)) (join_turn M xs i ps) (refresh_plan (arithmetic M) n)
  unfolding join_turn
  turn_keeps xs i ps h l a =
      let e : (sum (take i xs) % 2 + parity (get_or xs i 0)) % 2 ≡ sum (take (suc i) xs) % 2 = omega (arith, sum_more xs i l) in
      gives_map _ (join M (parity (get_or xs i 0))) (refresh_keeps (arithmetic M) (omega arith) (sum (take i xs) % 2) ps h a)
      (λ qs b. subst (λ (v : ℕ). Shares (arithmetic M) n v (join M (parity (get_or xs i 0)) qs)) e
      (join_keeps (parity (get_or xs i 0)) (sum (take i xs) % 2) qs (omega arith) (omega arith) h b))

  parity_keeps : (xs : List ℕ) → length xs ≡ n → 0 < n → Gives (Shares (arithmetic M) n (sum xs % 2)) (shared_parity M xs) (replicate ((n - 1) * (n - 1)) M)
  unfolding shared_parity each refresh_plan sum fold
  parity_keeps xs e h =
      rw e (subst (λ (l : List ℕ). Gives (Shares (arithmetic M) n (sum l % 2)) (turns (join_turn M xs) 1 (n - 1) first) (replicate ((n - 1) * (n - 1)) M)) whole
      (gives_turns (λ i ps. Shares (arithmetic M) n (sum (take i xs) % 2) ps) (join_turn M xs) (n - 1) M n (λ i ps l a. turn_keeps xs i ps h (omega arith) a)
      1 (n - 1) first (omega arith) begins))
    where
      first : List ℕ
      first = parity (get_or xs 0 0) ∷ replicate (n - 1) 0

      whole : take (1 + (n - 1)) xs ≡ xs
      whole = take_all (1 + (n - 1)) xs (omega arith)

      begins : Shares (arithmetic M) n (sum (take 1 xs) % 2) first
      begins =
          record {
            words = let k : suc (n - 1) ≡ n = omega arith in subst (λ (j : ℕ). Words j M first) k (words_cons (omega arith) (words_same (omega arith)));
            is =
                let total : sum first ≡ parity (get_or xs 0 0) = omega (arith, sum_zeros (n - 1)) in
                let one : sum (take 1 xs) ≡ get_or xs 0 0 = sum_more xs 0 (omega arith) ∙ omega arith in
                rw (total, one) (mod-eq_of_lt (omega arith));
          }

-- the parity of a sum is that of its remainder by an even number
pub parity_of : (m s v : ℕ) → s % (2 * m) ≡ v → parity s ≡ parity v
parity_of m s v e = omega (arith, div-add-mod' s (2 * m))

-- the shared parity recombines to the parity of the value
pub parity-shares : (m n v : ℕ) (xs : List ℕ) → 0 < m → 0 < n → Shares (arithmetic (2 * m)) n v xs →
    Gives (Shares (arithmetic (2 * m)) n (parity v)) (shared_parity (2 * m) xs) (halving_plan m n)
unfolding halving_plan
parity-shares m n v xs hm h a =
    subst (λ (p : ℕ). Gives (Shares (arithmetic (2 * m)) n p) (shared_parity (2 * m) xs) (replicate ((n - 1) * (n - 1)) (2 * m))) (parity_of m (sum xs) v a.is)
    (parity_keeps (omega arith) xs a.words.size h)

-- ---- the steps after it
less_keeps : (M n v c : ℕ) (ps xs : List ℕ) → 0 < M → c ≤ v → Shares (arithmetic M) n c ps → Shares (arithmetic M) n v xs → Shares (arithmetic M) n (v - c) (less M ps xs)
unfolding less
less_keeps M n v c ps xs h l b a =
    let rest : List ℕ = less M ps xs in
    let small : v < M = subst (λ (x : ℕ). x < M) a.is (mod-lt (sum xs) h) in
    let back : Cong M (sum rest + c) v =
    cong_add (cong_refl {a = sum rest}) (cong_eq (sym b.is) ⨾ cong_mod) ⨾ (sum_back M h xs ps (b.words.size ∙ sym a.words.size) ⨾ (cong_sym cong_mod ⨾ cong_eq a.is)) in
    record {
      words = less_words h b.words a.words;
      is = (cong_cancel c (back ⨾ cong_eq (omega arith))).eq ∙ mod-eq_of_lt (omega arith);
    }

-- after the moves every share is even
pub every_even : (m n v : ℕ) (xs : List ℕ) → 0 < m → 0 < n → parity v ≡ 0 → Shares (arithmetic (2 * m)) n v xs → (j : ℕ) → j < n → parity (get_or (evened (2 * m) xs) j 0) ≡ 0
every_even m n v xs hm h ev a j l = go (ℕ_discrete j (n - 1))
  where
    zs : List ℕ
    zs = evened (2 * m) xs

    kept : Shares (arithmetic (2 * m)) n v zs
    kept = evened_keeps (2 * m) n v xs (omega arith) h a

    before : (i : ℕ) → i < n - 1 → parity (get_or zs i 0) ≡ 0
    before i k =
        evened_even (2 * m) xs (subst (λ (d : ℕ). Words d (2 * m) xs) (sym a.words.size) a.words) (omega arith) (omega (arith, a.words.size)) i (omega (arith, a.words.size))

    go : Dec (j ≡ n - 1) → parity (get_or zs j 0) ≡ 0
    go (yes e) = rw e (sym (sum-parity (n - 1) zs (omega (arith, kept.words.size)) before) ∙ parity_of m (sum zs) v kept.is ∙ ev)
    go (no k) = before j (omega (arith, k))

halves_keep : (m n v : ℕ) (xs : List ℕ) → 0 < m → Shares (arithmetic (2 * m)) n v xs → ((j : ℕ) → j < n → parity (get_or xs j 0) ≡ 0) → Shares (arithmetic m) n (v / 2) (halves xs)
unfolding halves
halves_keep m n v xs hm a even =
    let twice = sum-halves xs (λ j l. even j (omega (arith, a.words.size))) in
    let small : v < 2 * m = subst (λ (x : ℕ). x < 2 * m) a.is (mod-lt (sum xs) (omega arith)) in
    record {
      words = halves_words a.words;
      is = (cong_by {M = m} {a = sum (halves xs)} {b = v / 2} 0 (sum xs / (2 * m)) (omega (arith, twice, a.is, div-add-mod' (sum xs) (2 * m)))).eq ∙ mod-eq_of_lt (omega arith);
    }

-- a halving makes (n - 1)² draws
pub halving_draws : (m n : ℕ) → length (halving_plan m n) ≡ (n - 1) * (n - 1)
unfolding halving_plan
halving_draws m n = length-replicate ((n - 1) * (n - 1)) (2 * m)

-- and recombines to floor(x/2)
pub halving_floor : (m n v : ℕ) (xs : List ℕ) → 0 < m → 0 < n → Shares (arithmetic (2 * m)) n v xs → Gives (Shares (arithmetic m) n (v / 2)) (halving m xs) (halving_plan m n)
unfolding halving
halving_floor m n v xs hm h a =
    gives_map _ (λ ps. halves (evened (2 * m) (less (2 * m) ps xs))) (parity-shares m n v xs hm h a)
    (λ ps b.
    let ev : ℕ = v - parity v in
    let c : Shares (arithmetic (2 * m)) n ev (less (2 * m) ps xs) = less_keeps (2 * m) n v (parity v) ps xs (omega arith) (omega arith) b a in
    let e : ev / 2 ≡ v / 2 = omega arith in
    subst (λ (u : ℕ). Shares (arithmetic m) n u (halves (evened (2 * m) (less (2 * m) ps xs)))) e
    (halves_keep m n ev (evened (2 * m) (less (2 * m) ps xs)) hm (evened_keeps (2 * m) n ev (less (2 * m) ps xs) (omega arith) h c)
    (every_even m n ev (less (2 * m) ps xs) hm h (omega arith) c)))
