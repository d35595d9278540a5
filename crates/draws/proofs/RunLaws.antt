-- Laws of runs, proved once for every program.
use mathlib.Core.Path.{◌≡◌, refl, sym, ap, ◌∙◌, fun_ext}
use mathlib.Core.List.{List}
use Prim.Native.Nat.{ℕ, zero, suc, ◌+◌, ◌-◌, ◌≤◌, ◌<◌}
use native.Mathlib.Numerals.{add-one}
use native.Mathlib.Omega.{arith}
use Rattle.tape.specs.declared.Cursor.{Cursor}
use Rattle.tape.specs.Tape.{Ran, ended, ran, draw_at}
use Rattle.draws.specs.Draws.{Draws, done, draw, after, next, run, bind, turns, each}

-- one after another after another: the grouping does not matter
pub bind_assoc : {A B C : Type 0} (d : Draws A) (f : A → Draws B) (g : B → Draws C) → bind (bind d f) g ≡ bind d (λ a. bind (f a) g)
unfolding bind
bind_assoc (done a) f g = refl
bind_assoc (draw M k) f g = ap (draw M) (fun_ext (λ r. bind_assoc (k r) f g))

-- nothing follows
pub bind_done : {A : Type 0} (d : Draws A) → bind d (λ a. done a) ≡ d
unfolding bind
bind_done (done a) = refl
bind_done (draw M k) = ap (draw M) (fun_ext (λ r. bind_done (k r)))

-- a program after another, run: the one and then the other
pub run_bind : {A B : Type 0} (d : Draws A) (f : A → Draws B) (tape : List ℕ) (p : Cursor) →
    run (bind d f) tape p ≡ next (run d tape p) (λ a q. run (f a) tape q)
unfolding run bind next after
run_bind (done a) f tape p = refl
run_bind (draw M k) f tape p = go (λ r q. run_bind (k r) f tape q) (draw_at tape p M)
  where
    go : ((r : ℕ) (q : Cursor) → run (bind (k r) f) tape q ≡ next (run (k r) tape q) (λ a s. run (f a) tape s)) →
        (x : Ran ℕ) → next x (λ r q. run (bind (k r) f) tape q) ≡ next (next x (λ r q. run (k r) tape q)) (λ a q. run (f a) tape q)
    go ih ended = refl
    go ih (ran r q) = ih r q

pub run_done : {A : Type 0} (a : A) (tape : List ℕ) (p : Cursor) → run (done a) tape p ≡ ran a p
unfolding run
run_done a tape p = refl

-- the same where it is known what the first gives
module _ {A B : Type 0} (d : Draws A) (f : A → Draws B) (tape : List ℕ) (p : Cursor) where
  pub bind_ran : (a : A) (q : Cursor) → run d tape p ≡ ran a q → run (bind d f) tape p ≡ run (f a) tape q
  unfolding next after
  bind_ran a q e = run_bind d f tape p ∙ rw e

  pub bind_ended : run d tape p ≡ ended → run (bind d f) tape p ≡ ended
  unfolding next after
  bind_ended e = run_bind d f tape p ∙ rw e

-- the same of a program that is such a one
module _ {A B : Type 0} {whole : Draws B} (d : Draws A) (f : A → Draws B) (tape : List ℕ) (p : Cursor) (e : whole ≡ bind d f) where
  pub part_ran : {a : A} {q : Cursor} → run d tape p ≡ ran a q → run whole tape p ≡ run (f a) tape q
  part_ran {a} {q} h = ap (λ c. run c tape p) e ∙ bind_ran d f tape p a q h

  pub part_ended : run d tape p ≡ ended → run whole tape p ≡ ended
  part_ended h = ap (λ c. run c tape p) e ∙ bind_ended d f tape p h

module _ {A : Type 0} (M : ℕ) (k : ℕ → Draws A) (tape : List ℕ) (p : Cursor) where
  pub run_draw : (r : ℕ) (q : Cursor) → draw_at tape p M ≡ ran r q → run (draw M k) tape p ≡ run (k r) tape q
  unfolding run next after
  run_draw r q e = rw e

  pub run_ended : draw_at tape p M ≡ ended → run (draw M k) tape p ≡ ended
  unfolding run next after
  run_ended e = rw e

-- a run that came to its end, taken apart
pub next_ran : {A B : Type 0} (x : Ran A) (f : A → Cursor → Ran B) {b : B} {q : Cursor} → next x f ≡ ran b q →
    (a : A) × (s : Cursor) × (x ≡ ran a s) × (f a s ≡ ran b q)
unfolding next after
next_ran ended f e = absurd (let z : ◌≡◌ {A = ℕ} 0 1 = cc in omega arith)
next_ran (ran a s) f e = (a, s, refl, e)

pub bind_parts : {A B : Type 0} (d : Draws A) (f : A → Draws B) (tape : List ℕ) (p : Cursor) {b : B} {q : Cursor} →
    run (bind d f) tape p ≡ ran b q → (a : A) × (s : Cursor) × (run d tape p ≡ ran a s) × (run (f a) tape s ≡ ran b q)
bind_parts d f tape p e = next_ran (run d tape p) (λ a s. run (f a) tape s) (sym (run_bind d f tape p) ∙ e)

pub draw_parts : {A : Type 0} (M : ℕ) (k : ℕ → Draws A) (tape : List ℕ) (p : Cursor) {b : A} {q : Cursor} →
    run (draw M k) tape p ≡ ran b q → (r : ℕ) × (s : Cursor) × (draw_at tape p M ≡ ran r s) × (run (k r) tape s ≡ ran b q)
unfolding run
draw_parts M k tape p e = next_ran (draw_at tape p M) (λ r s. run (k r) tape s) e

-- ---- one turn after another
-- the last of them
pub turns_last : {A : Type 0} (f : ℕ → A → Draws A) (i k : ℕ) (a : A) → turns f i (suc k) a ≡ bind (turns f i k a) (f (i + k))
unfolding turns bind
turns_last f i zero a = let e : i + 0 ≡ i = omega arith in rw e (bind_done (f i a))
turns_last f i (suc k) a =
    let e : suc i + k ≡ i + suc k = omega arith in
    ap (bind (f i a)) (fun_ext (λ b. turns_last f (suc i) k b ∙ ap (λ (j : ℕ). bind (turns f (suc i) k b) (f j)) e))
    ∙ sym (bind_assoc (f i a) (λ b. turns f (suc i) k b) (f (i + suc k)))

module _ {A : Type 0} (f : ℕ → A → Draws A) (i n : ℕ) (a : A) where
  pub each_none : n ≤ i → each f i n a ≡ done a
  unfolding each turns
  each_none h = let e : n - i ≡ 0 = omega arith in rw e

  pub each_one : i < n → each f i n a ≡ bind (f i a) (λ b. each f (i + 1) n b)
  unfolding each turns
  each_one h =
      let e : n - i ≡ suc (n - (i + 1)) = omega arith in
      rw (e, add-one i)

  -- the same, run
  module _ (tape : List ℕ) (p : Cursor) where
    pub each_done : n ≤ i → run (each f i n a) tape p ≡ ran a p
    each_done h = rw (each_none h) (run_done a tape p)

    pub each_more : i < n → (b : A) (q : Cursor) → run (f i a) tape p ≡ ran b q → run (each f i n a) tape p ≡ run (each f (i + 1) n b) tape q
    each_more h b q e = rw (each_one h) (bind_ran (f i a) (λ x. each f (i + 1) n x) tape p b q e)

    pub each_ended : i < n → run (f i a) tape p ≡ ended → run (each f i n a) tape p ≡ ended
    each_ended h e = rw (each_one h) (bind_ended (f i a) (λ x. each f (i + 1) n x) tape p e)
