-- Laws of the rule, as the code goes through it: where the tape ends, and what the results of U and Z give.
use mathlib.Core.Path.{◌≡◌, refl, sym, ap, ap₂, ◌∙◌}
use mathlib.Core.List.{List, [], ◌∷◌}
use Prim.Native.Nat.{ℕ, suc, ◌^◌, ◌≤◌, ◌<◌}
use native.Mathlib.Nat.{mod-lt}
use native.Mathlib.Omega.{arith}
use lib.ListN.{length, get_or, take, drop, replicate, length-replicate}
use lib.Pow.{pow_pos}
use lib.Seq.{get_or-take, length-take-le}
use Rattle.numbers.specs.Modulo.{add_mod, xor}
use Rattle.numbers.specs.Lists.{Words, change, along}
use Rattle.numbers.proofs.XorLaws.{xor_below}
use Rattle.numbers.proofs.WordsLaws.{words_head, words_cons, words_same}
use Rattle.numbers.proofs.AlongLaws.{along_is}
use Rattle.tape.specs.declared.Cursor.{Cursor}
use Rattle.tape.specs.Tape.{Ran, ended, ran, draw_at}
use Rattle.draws.specs.Draws.{Draws, done, draw, run, bind, turns, each}
use Rattle.draws.proofs.RunLaws.{run_done, run_draw, run_ended, bind_ran, bind_ended, part_ran, part_ended}
use Rattle.draws.proofs.PlanLaws.{always_run}
use Rattle.shares.specs.Sharing.{boolean, move}
use Rattle.shares.specs.Refresh.{turn, refresh}
use Rattle.shares.specs.Arrays.{Held}
use Rattle.shares.proofs.RefreshLaws.{refresh_keeps}
use Rattle.rules.specs.Psi.{psi, psis, z_of, added}
use Rattle.rules.specs.Rule.{rule}
use Rattle.rules.proofs.ListLaws.{psi_below}

-- ---- the steps of the rule on three shares or more
module _ (k : ℕ) {i j : ℕ} (one : i ≡ suc j) where
  unfoldable after_z : List ℕ → List ℕ → Draws (List ℕ)
  after_z us zs = done (added (2 ^ k) us zs)

  unfoldable after_u : List ℕ → List ℕ → Draws (List ℕ)
  after_u ys us = bind (rule k j (z_of k (length ys) (get_or ys 0 0) (drop 1 ys))) (after_z us)

  unfoldable after-refresh : List ℕ → Draws (List ℕ)
  after-refresh ys = bind (rule k j (drop 1 ys)) (after_u ys)

  rule_is : (xs : List ℕ) → rule k i xs ≡ bind (refresh (boolean k) xs) after-refresh
  unfolding rule after-refresh after_u after_z
  rule_is xs = ap (λ (n : ℕ). rule k n xs) one

  module _ (xs tape : List ℕ) (p : Cursor) where
    pub refresh_ended : run (refresh (boolean k) xs) tape p ≡ ended → run (rule k i xs) tape p ≡ ended
    refresh_ended = part_ended _ _ tape p (rule_is xs)

    module _ (ys : List ℕ) {c : Cursor} (e : run (refresh (boolean k) xs) tape p ≡ ran ys c) where
      refreshed : run (rule k i xs) tape p ≡ run (after-refresh ys) tape c
      refreshed = part_ran _ _ tape p (rule_is xs) e

      pub u_ended : run (rule k j (drop 1 ys)) tape c ≡ ended → run (rule k i xs) tape p ≡ ended
      unfolding after-refresh
      u_ended f = refreshed ∙ bind_ended (rule k j (drop 1 ys)) (after_u ys) tape c f

      module _ {us : List ℕ} {d : Cursor} (f : run (rule k j (drop 1 ys)) tape c ≡ ran us d) where
        after_first : run (rule k i xs) tape p ≡ run (after_u ys us) tape d
        unfolding after-refresh
        after_first = refreshed ∙ bind_ran (rule k j (drop 1 ys)) (after_u ys) tape c us d f

        pub z_ended : run (rule k j (z_of k (length ys) (get_or ys 0 0) (drop 1 ys))) tape d ≡ ended → run (rule k i xs) tape p ≡ ended
        unfolding after_u
        z_ended g = after_first ∙ bind_ended (rule k j (z_of k (length ys) (get_or ys 0 0) (drop 1 ys))) (after_z us) tape d g

        -- both results are there
        pub rule_gave : {zs rs : List ℕ} {o : Cursor} → run (rule k j (z_of k (length ys) (get_or ys 0 0) (drop 1 ys))) tape d ≡ ran zs o → rs ≡ added (2 ^ k) us zs →
            run (rule k i xs) tape p ≡ ran rs o
        unfolding after_u after_z
        rule_gave {zs} {rs} {o} g h =
            (after_first ∙ bind_ran (rule k j (z_of k (length ys) (get_or ys 0 0) (drop 1 ys))) (after_z us) tape d zs o g ∙ run_done (added (2 ^ k) us zs) tape o)
            ∙ ap (λ ws. ran ws o) (sym h)

-- what the rule gives of shares, it gives of the same shares
pub same_shares : (k j : ℕ) (tape : List ℕ) (c : Cursor) {xs ys : List ℕ} {x : Ran (List ℕ)} → xs ≡ ys → run (rule k j xs) tape c ≡ x → run (rule k j ys) tape c ≡ x
same_shares k j tape c e f = ap (λ zs. run (rule k j zs) tape c) (sym e) ∙ f

-- ---- few shares: the draws of their refresh one by one
-- what is left of x: to run d from the place p on
pub record Left (x : Ran (List ℕ)) (d : Draws (List ℕ)) (tape : List ℕ) (p : Cursor) : Type 0 where
  pub same : x ≡ run d tape p

module _ {x : Ran (List ℕ)} {M : ℕ} {f : ℕ → Draws (List ℕ)} {tape : List ℕ} {p : Cursor} (l : Left x (draw M f) tape p) where
  pub draw_ended : ended ≡ draw_at tape p M → x ≡ ended
  draw_ended e = l.same ∙ run_ended M f tape p (sym e)

  pub drew : {r : ℕ} {q : Cursor} → ran r q ≡ draw_at tape p M → Left x (f r) tape q
  drew {r} {q} e = record { same = l.same ∙ run_draw M f tape p r q (sym e) }

pub refresh_three : (k a b c : ℕ) (tape : List ℕ) (p : Cursor) →
    Left (run (refresh (boolean k) (a ∷ b ∷ c ∷ [])) tape p) (draw (2 ^ k) (λ r. draw (2 ^ k) (λ v. done (xor a r ∷ xor b v ∷ xor (xor c r) v ∷ [])))) tape p
unfolding refresh turn each turns bind move change
refresh_three k a b c tape p = record { same = refl }

-- the first words of an array, one by one
pub listed : (n : ℕ) (ws : List ℕ) → n ≤ length ws → take n ws ≡ along (λ i x. get_or ws i 0) (replicate n 0)
listed n ws h =
    let zeros : List ℕ = replicate n 0 in
    let size : length zeros ≡ n = length-replicate n 0 in
    along_is _ zeros (take n ws) (length-take-le n ws h ∙ sym size) (λ j l. get_or-take n ws j 0 (omega arith))

-- four shares as the refresh makes them, by the draws r, v and w
abbrev pub four : List ℕ → ℕ → ℕ → ℕ → List ℕ
four ws r v w = xor (get_or ws 0 0) r ∷ xor (get_or ws 1 0) v ∷ xor (get_or ws 2 0) w ∷ xor (xor (xor (get_or ws 3 0) r) v) w ∷ []

pub refresh_four : (k : ℕ) (ws tape : List ℕ) (p : Cursor) → length ws ≡ 9 →
    Left (run (refresh (boolean k) (take 4 ws)) tape p) (draw (2 ^ k) (λ r. draw (2 ^ k) (λ v. draw (2 ^ k) (λ w. done (four ws r v w))))) tape p
unfolding refresh turn each turns bind move change along
refresh_four k ws tape p h = record { same = ap (λ xs. run (refresh (boolean k) xs) tape p) (listed 4 ws (omega arith)) }

-- shares below 2^k are so after the refresh
pub fresh_below : (n k : ℕ) (xs tape : List ℕ) (p : Cursor) (ys : List ℕ) {c : Cursor} → 0 < n → Words n (2 ^ k) xs → run (refresh (boolean k) xs) tape p ≡ ran ys c → Words n (2 ^ k) ys
fresh_below n k xs tape p ys h w e = (always_run (refresh_keeps (boolean k) (pow_pos k) _ xs h (record { words = w; is = refl })).always tape p e).words

-- three shares, refreshed
three_run : (k x y z : ℕ) (xs tape : List ℕ) (p c : Cursor) → run (refresh (boolean k) xs) tape p ≡ ran (x ∷ y ∷ z ∷ []) c →
    run (rule k 1 xs) tape p ≡ ran (xor y z ∷ xor (xor (psi k x y) x) (psi k x z) ∷ []) c
unfolding rule z_of psis added along change bind run
three_run k x y z xs tape p c e = bind_ran (refresh (boolean k) xs) _ tape p (x ∷ y ∷ z ∷ []) c e

pub three_gave : (k : ℕ) (xs tape : List ℕ) (p : Cursor) {x y z : ℕ} {c : Cursor} → Words 3 (2 ^ k) xs → Left (run (refresh (boolean k) xs) tape p) (done (x ∷ y ∷ z ∷ [])) tape c →
    {s t u w : ℕ} → s ≡ psi k x y → t ≡ psi k x z → u ≡ xor y z → w ≡ xor (xor s x) t → (run (rule k 1 xs) tape p ≡ ran (u ∷ w ∷ []) c) × Words 8 (2 ^ k) (u ∷ w ∷ replicate 6 0)
three_gave k xs tape p {x} {y} {z} {c} a l es et eu ew =
    let e : run (refresh (boolean k) xs) tape p ≡ ran (x ∷ y ∷ z ∷ []) c = l.same ∙ run_done _ tape c in
    let all : Words 3 (2 ^ k) (x ∷ y ∷ z ∷ []) = fresh_below 3 k xs tape p _ (omega arith) a e in (
      rw (eu, ew, es, et) (three_run k x y z xs tape p c e),
      words_cons (rw eu (xor_below k y z (all.below 1 (omega arith)) (all.below 2 (omega arith))))
          (words_cons (rw (ew, es, et) (xor_below k _ (psi k x z) (xor_below k (psi k x y) x (psi_below k x y) (words_head all)) (psi_below k x z)))
          (words_same (pow_pos k))),
    )

-- four shares, refreshed: Z, and two results of two words added
pub four_z : (k x a b c : ℕ) {s t u : ℕ} → s ≡ psi k x a → t ≡ psi k x b → u ≡ psi k x c → s ∷ t ∷ u ∷ [] ≡ z_of k 4 x (a ∷ b ∷ c ∷ [])
unfolding z_of psis along
four_z k x a b c es et eu = rw (es, et, eu)

module _ (k : ℕ) {us zs : List ℕ} {s : ℕ} (e : s ≡ add_mod (2 ^ k) (get_or us 0 0) (get_or zs 0 0)) (u : Words 8 (2 ^ k) us) (z : Words 8 (2 ^ k) zs) where
  pub four_added : s ∷ get_or us 1 0 ∷ get_or zs 1 0 ∷ [] ≡ added (2 ^ k) (take 2 us) (take 2 zs)
  unfolding added along
  four_added = rw e (sym (ap₂ (added (2 ^ k)) (listed 2 us (omega (arith, u.size))) (listed 2 zs (omega (arith, z.size)))))

  pub four_below : Words 8 (2 ^ k) (s ∷ get_or us 1 0 ∷ get_or zs 1 0 ∷ replicate 5 0)
  unfolding add_mod
  four_below =
      words_cons (rw e (mod-lt _ (pow_pos k))) (words_cons (u.below 1 (omega arith)) (words_cons (z.below 1 (omega arith)) (words_same (pow_pos k))))

-- three shares of their own
pub three_held : {M : ℕ} {xs : List ℕ} → 2 ≤ M → Words 3 M xs → Held 3 3 M xs
three_held h w = record { least = omega arith; most = omega arith; two = h; all = w }
