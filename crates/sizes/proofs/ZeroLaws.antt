-- The zero test multiplies the value by its scalars, which are not zero: over any prime and any n. What it gives goes by its draws.
use mathlib.Core.Path.{◌≡◌, refl, sym, ap, ap₂, subst, ◌∙◌}
use mathlib.Core.Logic.{◌≢◌}
use mathlib.Core.List.{List, [], ◌∷◌, ◌++◌}
use Prim.Native.Nat.{ℕ, zero, suc, ◌+◌, ◌-◌, ◌*◌, ◌%◌, ◌≤◌, ◌<◌}
use native.Mathlib.Nat.{mod-eq_of_lt, sub-zero}
use native.Mathlib.Omega.{arith}
use lib.ListN.{length, get_or, replicate, length-replicate, get_or-append}
use lib.Seq.{get_or-append_seam}
use Rattle.numbers.specs.Lists.{Words, fold, sum, along, over}
use Rattle.numbers.specs.Prime.{Prime}
use Rattle.numbers.proofs.Cong.{Cong, cong_eq, cong_mod, cong_add, cong_mul, cong_refl, cong_sym, via, ◌⨾◌}
use Rattle.numbers.proofs.PrimeLaws.{no_zero}
use Rattle.draws.specs.Draws.{turns, each}
use Rattle.draws.specs.Plan.{repeated}
use Rattle.draws.proofs.Outcomes.{Gives, feed, Fits, none_left, one_more}
use Rattle.draws.proofs.PlanLaws.{gives_draw, gives_rounds, repeated_last, repeated-length, gives_as, always_feed, feed_bind, fits_split, FitBoth, fits_length}
use Rattle.draws.proofs.RunLaws.{turns_last}
use Rattle.shares.specs.Sharing.{arithmetic}
use Rattle.shares.specs.Refresh.{refresh, refresh_plan}
use Rattle.shares.proofs.SharingLaws.{Shares, value_below}
use Rattle.shares.proofs.RefreshLaws.{refresh_keeps}
use Rattle.sizes.specs.ZeroTest.{scaled, scale_turn, zero_test, scale_plan, scales_plan}
use Rattle.sizes.specs.Scalars.{scalar_of, scalars_of}
use Rattle.sizes.proofs.ZeroSteps.{scaled_words}

-- the plan of the last turn, and not of the first, apart from the others
pub scales_last : (M n t : ℕ) → scales_plan M n (suc t) ≡ scales_plan M n t ++ scale_plan M n
unfolding scales_plan
scales_last M n t = repeated_last t (scale_plan M n)

-- the draws of one turn more, taken apart
pub record Scales (M n t : ℕ) (rs : List ℕ) : Type 0 where
  pub before : List ℕ
  pub scalar : ℕ
  pub fresh : List ℕ
  pub all : rs ≡ before ++ (scalar ∷ fresh)
  pub fit_before : Fits (scales_plan M n t) before
  pub scalar_below : scalar < M - 1
  pub fit_fresh : Fits (refresh_plan (arithmetic M) n) fresh

pub scales_parts : (M n t : ℕ) (rs : List ℕ) → Fits (scales_plan M n (suc t)) rs → Scales M n t rs
unfolding scale_plan
scales_parts M n t rs f = go (fits_split (scales_plan M n t) (subst (λ ms. Fits ms rs) (scales_last M n t) f))
  where
    go : FitBoth (scales_plan M n t) ((M - 1) ∷ refresh_plan (arithmetic M) n) rs → Scales M n t rs
    go b = one b.snd b.all b.fit_snd
      where
        one : (snd : List ℕ) → rs ≡ b.fst ++ snd → Fits ((M - 1) ∷ refresh_plan (arithmetic M) n) snd → Scales M n t rs
        one snd e (one_more {r = r} {rs = os} l g) = record { before = b.fst; scalar = r; fresh = os; all = e; fit_before = b.fit_fst; scalar_below = l; fit_fresh = g }

-- a turn makes n draws
module _ {n : ℕ} (few : 0 < n) where
  pub scales_length : (M t : ℕ) → length (scales_plan M n t) ≡ t * n
  unfolding scales_plan scale_plan refresh_plan
  scales_length M t = repeated-length t (scale_plan M n) ∙ ap (t *◌) one
    where
      one : suc (length (replicate (n - 1) M)) ≡ n
      one = rw (length-replicate (n - 1) M) (omega arith)

  -- the scalars of the turns before the last, and the last one
  scalars_front : (t : ℕ) (cs bs : List ℕ) → t * n ≤ length cs → scalars_of n (cs ++ bs) t ≡ scalars_of n cs t
  unfolding scalars_of over scalar_of
  scalars_front zero cs bs h = refl
  scalars_front (suc t) cs bs h =
      rw (scalars_front t cs bs (omega arith), get_or-append cs bs 0 (t * n) (omega arith))

  pub scalars_last : (t r : ℕ) (cs os : List ℕ) → length cs ≡ t * n → scalars_of n (cs ++ (r ∷ os)) (suc t) ≡ scalars_of n cs t * (r + 1)
  unfolding scalars_of over scalar_of
  scalars_last t r cs os e =
      ap₂ (λ (s : ℕ) (j : ℕ). s * (get_or (cs ++ (r ∷ os)) j 0 + 1)) (scalars_front t cs (r ∷ os) (omega arith)) (sym e)
      ∙ ap (λ (x : ℕ). scalars_of n cs t * (x + 1)) (get_or-append_seam cs r os 0)

  pub before_length : {M t : ℕ} {rs : List ℕ} (b : Scales M n t rs) → length b.before ≡ t * n
  before_length {M} {t} b = fits_length b.fit_before ∙ scales_length M t

-- all shares times c
module _ {M : ℕ} (c : ℕ) where
  sum_times : (xs : List ℕ) → Cong M (sum (scaled M c xs)) (sum xs * c)
  unfolding scaled along sum fold
  sum_times [] = cong_eq (omega arith)
  sum_times (x ∷ xs) = cong_add cong_mod (sum_times xs) ⨾ cong_eq (omega arith)

  scaled_value : {n v : ℕ} {xs : List ℕ} → 0 < M → Shares (arithmetic M) n v xs → Shares (arithmetic M) n (v * c % M) (scaled M c xs)
  scaled_value {xs = xs} some a =
      record {
        words = scaled_words M c some a.words;
        is = (sum_times xs ⨾ cong_mul (via (sum xs % M) (cong_sym cong_mod) (cong_eq a.is)) cong_refl).eq;
      }

module _ {M n : ℕ} (some : 0 < M) (few : 0 < n) where
  -- a turn multiplies the value by its scalar
  turn_gives : (r v : ℕ) (xs : List ℕ) → Shares (arithmetic M) n v xs →
      Gives (Shares (arithmetic M) n (v * (r + 1) % M)) (refresh (arithmetic M) (scaled M (r + 1) xs)) (refresh_plan (arithmetic M) n)
  turn_gives r v xs a = refresh_keeps (arithmetic M) some (v * (r + 1) % M) (scaled M (r + 1) xs) few (scaled_value (r + 1) some a)

  scale_gives : (i : ℕ) (xs : List ℕ) → Words n M xs → Gives (Words n M) (scale_turn M i xs) (scale_plan M n)
  unfolding scale_turn scale_plan
  scale_gives i xs w = gives_draw (λ r l. gives_as (λ ys s. s.words) (turn_gives r (sum xs % M) xs (record { words = w; is = refl })))

  pub scales_give : (t : ℕ) (xs : List ℕ) → Words n M xs → Gives (Words n M) (turns (scale_turn M) 0 t xs) (scales_plan M n t)
  unfolding scales_plan
  scales_give t xs w = gives_rounds (λ i. Words n M) (scale_turn M) (scale_plan M n) t (λ i ys h u. scale_gives i ys u) 0 t xs (omega arith) w

  pub zero_test_gives : (xs : List ℕ) → Words n M xs → Gives (Words n M) (zero_test M xs) (scales_plan M n n)
  unfolding zero_test each
  zero_test_gives xs w = rw (w.size, sub-zero n) (scales_give n xs w)

  -- fed with the draw r and then others
  turn_feed : (i v r : ℕ) (xs os : List ℕ) → Shares (arithmetic M) n v xs → Fits (refresh_plan (arithmetic M) n) os →
      Shares (arithmetic M) n (v * (r + 1) % M) (feed (scale_turn M i xs) (r ∷ os))
  unfolding scale_turn feed
  turn_feed i v r xs os a f = let g = turn_gives r v xs a in always_feed g.plan g.always os f

  scales_more : (t v : ℕ) (xs : List ℕ) {rs : List ℕ} → Shares (arithmetic M) n v xs → (b : Scales M n t rs) →
      Shares (arithmetic M) n (v * scalars_of n b.before t % M) (feed (turns (scale_turn M) 0 t xs) b.before) →
      let l = b.before ++ (b.scalar ∷ b.fresh) in Shares (arithmetic M) n (v * scalars_of n l (suc t) % M) (feed (turns (scale_turn M) 0 (suc t) xs) l)
  scales_more t v xs a b ih =
      let s : ℕ = scalars_of n b.before t in
      let c : ℕ = b.scalar + 1 in
      let same : Cong M (v * s % M * c) (v * (s * c)) = cong_mul cong_mod cong_refl ⨾ cong_eq (omega arith) in
      rw (scalars_last few t b.scalar b.before b.fresh (before_length few b), turns_last (scale_turn M) 0 t xs, feed_bind (scales_give t xs a.words).plan (scale_turn M (0 + t)) b.before (b.scalar ∷ b.fresh) b.fit_before, ← same.eq)
      (turn_feed (0 + t) (v * s % M) b.scalar (feed (turns (scale_turn M) 0 t xs) b.before) b.fresh ih b.fit_fresh)

  -- so many turns multiply the value by their scalars
  pub scales_feed : (t v : ℕ) (xs rs : List ℕ) → Shares (arithmetic M) n v xs → Fits (scales_plan M n t) rs →
      Shares (arithmetic M) n (v * scalars_of n rs t % M) (feed (turns (scale_turn M) 0 t xs) rs)
  unfolding scales_plan repeated over scalars_of turns feed
  scales_feed zero v xs rs a none_left =
      let one : v * 1 ≡ v = omega arith in
      rw one (record { words = a.words; is = a.is ∙ sym (mod-eq_of_lt (value_below (arithmetic M) some a)) })
  scales_feed (suc t) v xs rs a f =
      let b = scales_parts M n t rs f in
      let ih = scales_feed t v xs b.before a b.fit_before in
      subst (λ l. Shares (arithmetic M) n (v * scalars_of n l (suc t) % M) (feed (turns (scale_turn M) 0 (suc t) xs) l)) (sym b.all) (scales_more t v xs a b ih)

  pub zero_test_feed : (v : ℕ) (xs rs : List ℕ) → Shares (arithmetic M) n v xs → Fits (scales_plan M n n) rs → Shares (arithmetic M) n (v * scalars_of n rs n % M) (feed (zero_test M xs) rs)
  unfolding zero_test each
  zero_test_feed v xs rs a f = rw (a.words.size, sub-zero n) (scales_feed n v xs rs a f)

-- and no product of scalars is zero
pub scalars_not_zero : {M : ℕ} → Prime M → (n t : ℕ) → 0 < n → (rs : List ℕ) → Fits (scales_plan M n t) rs → scalars_of n rs t % M ≢ 0
unfolding scalars_of over scales_plan repeated
scalars_not_zero {M} prime n zero few rs f = λ e. let one : 1 % M ≡ 1 = mod-eq_of_lt prime.more in omega arith
scalars_not_zero {M} prime n (suc t) few rs f =
    let some : 0 < M = omega (arith, prime.more) in
    let b = scales_parts M n t rs f in
    let ih = scalars_not_zero prime n t few b.before b.fit_before in
    let small : b.scalar + 1 < M = omega (arith, b.scalar_below) in
    subst (λ l. scalars_of n l (suc t) % M ≢ 0) (sym b.all)
    (subst (λ (s : ℕ). s % M ≢ 0) (sym (scalars_last few t b.scalar b.before b.fresh (before_length few b)))
    (no_zero prime (scalars_of n b.before t) (b.scalar + 1) ih (λ z. let e : (b.scalar + 1) % M ≡ b.scalar + 1 = mod-eq_of_lt small in omega arith)))

-- so the zero test multiplies the value by a number that is not zero
pub zero_test_blinds : {M n : ℕ} → Prime M → 0 < n → (v : ℕ) (xs rs : List ℕ) → Shares (arithmetic M) n v xs → Fits (scales_plan M n n) rs →
    Shares (arithmetic M) n (v * scalars_of n rs n % M) (feed (zero_test M xs) rs) × (scalars_of n rs n % M ≢ 0)
zero_test_blinds {n = n} prime few v xs rs a f = (zero_test_feed (omega (arith, prime.more)) few v xs rs a f, scalars_not_zero prime n n few rs f)
