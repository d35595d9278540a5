-- Exactly one list of draws leads a refresh from any shares to any others, but for one share: over any n, M and k.
-- The argument: the shares that are aimed at, and the value, fix the share that is left out; and each draw is what its share is to change by.
use mathlib.Core.Path.{◌≡◌, refl, sym, ap, subst, ◌∙◌}
use mathlib.Core.Bool.{true}
use mathlib.Core.List.{List, [], ◌∷◌}
use Prim.Native.Nat.{ℕ, zero, suc, ◌+◌, ◌-◌, ◌≤◌, ◌<◌}
use native.Mathlib.Nat.{zero-add}
use native.Mathlib.Omega.{arith}
use native.Mathlib.Decide.{ℕ_discrete}
use lib.ListN.{length, get_or, set, replicate, length-set, length-replicate}
use lib.Seq.{get_or-set_same, get_or-set_other, ext_get_or, set-get_or}
use Rattle.numbers.specs.Lists.{Words, fold}
use Rattle.numbers.proofs.GroupLaws.{Group, add_cancel, add_solves, add_only}
use Rattle.numbers.proofs.WordsLaws.{words_at, words_set, words_table, table, table_at}
use Rattle.numbers.proofs.FoldLaws.{fold_below, fold_at}
use Rattle.draws.specs.Draws.{bind, turns}
use Rattle.draws.specs.Anew.{ExactlyOne}
use Rattle.draws.proofs.Outcomes.{feed, Fits, merged, Marks}
use Rattle.draws.proofs.PlanLaws.{always_feed, words_fit, fits_length}
use Rattle.draws.proofs.MarksLaws.{all_marked, all_merged}
use Rattle.draws.proofs.AnewLaws.{exactly_as}
use Rattle.shares.specs.Sharing.{Sharing, bound, value, plus, minus, move}
use Rattle.shares.specs.Refresh.{turn, refresh, refresh_plan}
use Rattle.shares.specs.Closing.{closing_marks, SameBut}
use Rattle.shares.proofs.MoveLaws.{move-length, move_to, move_other}
use Rattle.shares.proofs.SharingLaws.{group, fold-value}
use Rattle.shares.proofs.RefreshLaws.{refresh-turns, refresh_keeps}

-- ---- the share that is left out is fixed by the others and the value

module _ {M : ℕ} {add sub : ℕ → ℕ → ℕ} (G : Group M add sub) {n : ℕ} (j : ℕ) (hj : j < n) where
  open G use {positive, sub_below}

  -- all shares but j
  rest : List ℕ → ℕ
  rest xs = fold add (set xs j 0)

  module _ {xs : List ℕ} (w : Words n M xs) where
    rest_below : rest xs < M
    unfolding rest
    rest_below = fold_below G (set xs j 0) (words_set w j positive)

    rest_and : (x : ℕ) → x < M → fold add (set xs j x) ≡ add (rest xs) x
    unfolding rest
    rest_and x h = fold_at G j x xs h w (omega (arith, w.size))

  -- two lists of one value that are the same but for share j are the same
  same_all : {xs ys : List ℕ} → Words n M xs → Words n M ys → SameBut n j xs ys → fold add xs ≡ fold add ys → xs ≡ ys
  unfolding rest
  same_all {xs} {ys} wx wy s e = ext_get_or 0 xs ys (wx.size ∙ sym wy.size) (λ i h. go i (omega (arith, wx.size)) (ℕ_discrete i j))
    where
      others : set xs j 0 ≡ set ys j 0
      others = ext_get_or 0 (set xs j 0) (set ys j 0) (length-set xs j 0 ∙ wx.size ∙ sym (length-set ys j 0 ∙ wy.size)) (λ i h. at i (omega (arith, length-set xs j 0, wx.size)) (ℕ_discrete i j))
        where
          at : (i : ℕ) → i < n → Dec (i ≡ j) → get_or (set xs j 0) i 0 ≡ get_or (set ys j 0) i 0
          at i h (yes f) = rw f (get_or-set_same xs j 0 0 (omega (arith, wx.size)) ∙ sym (get_or-set_same ys j 0 0 (omega (arith, wy.size))))
          at i h (no m) = get_or-set_other xs j i 0 0 m ∙ s i h m ∙ sym (get_or-set_other ys j i 0 0 m)

      split : {zs : List ℕ} → Words n M zs → fold add zs ≡ add (rest zs) (get_or zs j 0)
      split {zs} w = ap (fold add) (sym (set-get_or zs j 0)) ∙ rest_and w (get_or zs j 0) (w.below j hj)

      both : add (get_or xs j 0) (rest xs) ≡ add (get_or ys j 0) (rest xs)
      both =
          G.comm (get_or xs j 0) (rest xs) ∙ sym (split wx) ∙ e ∙ split wy
          ∙ ap (λ (l : List ℕ). add (fold add l) (get_or ys j 0)) (sym others) ∙ G.comm (rest xs) (get_or ys j 0)

      go : (i : ℕ) → i < n → Dec (i ≡ j) → get_or xs i 0 ≡ get_or ys i 0
      go i h (no m) = s i h m
      go i h (yes f) = rw f (add_cancel G (get_or xs j 0) (get_or ys j 0) (rest xs) (wx.below j hj) (wy.below j hj) (rest_below wx) both)

  -- zs with share j such that the value is v
  aim : List ℕ → ℕ → List ℕ
  aim zs v = set zs j (sub v (rest zs))

  module _ {zs : List ℕ} (w : Words n M zs) {v : ℕ} (hv : v < M) where
    missing_below : sub v (rest zs) < M
    missing_below = sub_below v (rest zs) hv (rest_below w)

    aim_words : Words n M (aim zs v)
    unfolding aim
    aim_words = words_set w j missing_below

    aim_value : fold add (aim zs v) ≡ v
    unfolding aim
    aim_value = rest_and w (sub v (rest zs)) missing_below ∙ add_solves G (rest zs) v (rest_below w) hv

    aim_same : SameBut n j (aim zs v) zs
    unfolding aim
    aim_same i h m = get_or-set_other zs j i (sub v (rest zs)) 0 m

-- ---- each draw of a refresh is what its share changes by

module _ (s : Sharing) where
  turns_before : (last i k : ℕ) (xs rs : List ℕ) (j : ℕ) → length rs ≡ k → j < i → i + k ≤ last → get_or (feed (turns (turn s last) i k xs) rs) j 0 ≡ get_or xs j 0
  unfolding feed turns turn bind
  turns_before last i zero xs rs j e h l = refl
  turns_before last i (suc k) xs [] j e h l = absurd (omega arith)
  turns_before last i (suc k) xs (r ∷ rs) j e h l =
      turns_before last (suc i) k (move s last i r xs) rs j (omega arith) (omega arith) (omega arith)
      ∙ move_other s last i r xs j (omega arith) (omega arith)

  -- share i + j has draw j added
  turns_at : (last i k : ℕ) (xs rs : List ℕ) (j : ℕ) → length rs ≡ k → j < k → i + k ≤ last → last < length xs →
      get_or (feed (turns (turn s last) i k xs) rs) (i + j) 0 ≡ plus s (get_or xs (i + j) 0) (get_or rs j 0)
  unfolding feed turns turn bind
  turns_at last i zero xs rs j e h l o = absurd (omega arith)
  turns_at last i (suc k) xs [] j e h l o = absurd (omega arith)
  turns_at last i (suc k) xs (r ∷ rs) zero e h l o =
      let f : i + 0 ≡ i = omega arith in
      rw f
      (turns_before last (suc i) k (move s last i r xs) rs i (omega arith) (omega arith) (omega arith)
      ∙ move_to s last i r xs (omega arith) (omega arith))
  turns_at last i (suc k) xs (r ∷ rs) (suc j) e h l o =
      let f : i + suc j ≡ suc i + j = omega arith in
      rw f
      (turns_at last (suc i) k (move s last i r xs) rs j (omega arith) (omega arith) (omega arith) (omega (arith, move-length s last i r xs))
      ∙ ap (λ (x : ℕ). plus s x (get_or rs j 0)) (move_other s last i r xs (suc i + j) (omega arith) (omega arith)))

  -- ---- so exactly one list of draws leads from ys to zs but for share j
  module _ (pos : 0 < bound s) (d : ℕ) {ys : List ℕ} (wy : Words (suc d) (bound s) ys) where
    G : Group (bound s) (plus s) (minus s)
    G = group s pos

    module _ {rs : List ℕ} (w : Words d (bound s) rs) where
      fed_shares : Words (suc d) (bound s) (feed (refresh s ys) rs) × (fold (plus s) (feed (refresh s ys) rs) ≡ fold (plus s) ys)
      unfolding refresh_plan
      fed_shares =
          let g = refresh_keeps s pos (value s ys) ys (omega arith) (record { words = wy; is = refl }) in
          let e : suc d - 1 ≡ d = omega arith in
          let a = always_feed g.plan g.always rs (subst (λ (k : ℕ). Fits (replicate k (bound s)) rs) (sym e) (words_fit d (bound s) rs w)) in
          (a.words, fold-value s pos (feed (refresh s ys) rs) ∙ a.is ∙ sym (fold-value s pos ys))

      fed_at : (i : ℕ) → i < d → get_or (feed (refresh s ys) rs) i 0 ≡ plus s (get_or ys i 0) (get_or rs i 0)
      fed_at i h =
          ap (λ p. get_or (feed p rs) i 0) (refresh-turns s d ys wy.size)
          ∙ rw zero-add at (turns_at d 0 d ys rs i w.size h (omega arith) (omega (arith, wy.size)))

    module _ {zs : List ℕ} (wz : Words (suc d) (bound s) zs) (j : ℕ) (hj : j < suc d) where
      -- the shares aimed at, whole
      whole : List ℕ
      whole = aim G j hj zs (fold (plus s) ys)

      ww : Words (suc d) (bound s) whole
      unfolding whole
      ww = aim_words G j hj wz (fold_below G ys wy)

      -- and the draws that lead there
      leading : List ℕ
      leading = table (λ i. minus s (get_or whole i 0) (get_or ys i 0)) d

      leading_words : Words d (bound s) leading
      unfolding leading
      leading_words = words_table (λ i. minus s (get_or whole i 0) (get_or ys i 0)) d (λ i. G.sub_below (get_or whole i 0) (get_or ys i 0) (words_at pos ww i) (words_at pos wy i))

      leads : feed (refresh s ys) leading ≡ whole
      unfolding whole leading
      leads =
          let (a, e) = fed_shares leading_words in
          same_all G d (omega arith) a ww
          (λ i h m. let l : i < d = omega arith in
          fed_at leading_words i l ∙ ap (plus s (get_or ys i 0)) (table_at _ d i l) ∙ add_solves G (get_or ys i 0) (get_or whole i 0) (words_at pos wy i) (words_at pos ww i))
          (e ∙ sym (aim_value G j hj wz (fold_below G ys wy)))

      only_leading : (rs : List ℕ) → Words d (bound s) rs → SameBut (suc d) j (feed (refresh s ys) rs) zs → rs ≡ leading
      unfolding whole leading
      only_leading rs w t = ext_get_or 0 rs leading (w.size ∙ sym leading_words.size) (λ i h. at i (omega (arith, w.size)))
        where
          there : feed (refresh s ys) rs ≡ whole
          there =
              let (a, e) = fed_shares w in
              same_all G j hj a ww (λ i h m. t i h m ∙ sym (aim_same G j hj wz (fold_below G ys wy) i h m)) (e ∙ sym (aim_value G j hj wz (fold_below G ys wy)))

          at : (i : ℕ) → i < d → get_or rs i 0 ≡ get_or leading i 0
          at i h =
              add_only G (get_or ys i 0) (get_or rs i 0) (get_or whole i 0) (words_at pos wy i) (w.below i h) (sym (fed_at w i h) ∙ ap (λ (l : List ℕ). get_or l i 0) there)
              ∙ sym (table_at _ d i h)

      one_leading : ExactlyOne d (bound s) (λ us. SameBut (suc d) j (feed (refresh s ys) us) zs)
      unfolding whole
      one_leading =
          record {
            setting = leading;
            words = leading_words;
            works = λ i h m. ap (λ (l : List ℕ). get_or l i 0) leads ∙ aim_same G j hj wz (fold_below G ys wy) i h m;
            only = only_leading;
          }

-- ---- in the words of demand 3: the draws of the closing refresh, set anew

pub closing_marks_lem : (s : Sharing) (n : ℕ) → Marks (closing_marks n) (refresh_plan s n) (n - 1) (bound s)
unfolding refresh_plan closing_marks
closing_marks_lem s n = all_marked (n - 1) (bound s)

-- all draws of a refresh are below one modulus
pub closing_plan : (s : Sharing) (n : ℕ) → (k : ℕ) × (refresh_plan s n ≡ replicate k (bound s))
unfolding refresh_plan
closing_plan s n = (n - 1, refl)

-- whatever rs the draws of a refresh of ys gave, exactly one list of numbers in place of them leads to zs but for share j
pub refresh_closes : (s : Sharing) → 0 < bound s → (n : ℕ) (ys zs : List ℕ) → Words n (bound s) ys → Words n (bound s) zs → (j : ℕ) → j < n →
    (rs : List ℕ) → Fits (refresh_plan s n) rs → ExactlyOne (n - 1) (bound s) (λ us. SameBut n j (feed (refresh s ys) (merged (closing_marks n) rs us)) zs)
unfolding refresh_plan closing_marks
refresh_closes s pos n ys zs wy wz j hj rs f = as_merged (go n (n - 1) (omega arith) wy wz hj)
  where
    go : (m d : ℕ) → m ≡ suc d → Words m (bound s) ys → Words m (bound s) zs → j < m → ExactlyOne d (bound s) (λ us. SameBut m j (feed (refresh s ys) us) zs)
    go m d e vy vz l = rw e (one_leading s pos d (rw e at vy) (rw e at vz) j (rw e at l))

    put : (us : List ℕ) → Words (n - 1) (bound s) us → merged (replicate (n - 1) true) rs us ≡ us
    put us w = all_merged (n - 1) rs us (fits_length f ∙ length-replicate (n - 1) (bound s)) w.size

    as_merged : ExactlyOne (n - 1) (bound s) (λ us. SameBut n j (feed (refresh s ys) us) zs) →
        ExactlyOne (n - 1) (bound s) (λ us. SameBut n j (feed (refresh s ys) (merged (replicate (n - 1) true) rs us)) zs)
    as_merged = exactly_as _
        (λ us w t. subst (λ (l : List ℕ). SameBut n j (feed (refresh s ys) l) zs) (sym (put us w)) t)
        (λ us w t. subst (λ (l : List ℕ). SameBut n j (feed (refresh s ys) l) zs) (put us w) t)
