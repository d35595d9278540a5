-- Laws of outcomes and of plans, proved once for every program.
use mathlib.Core.Path.{◌≡◌, refl, sym, ap, subst, subst₂, ◌∙◌}
use mathlib.Core.List.{List, [], ◌∷◌, ◌++◌, append-nil, append_assoc}
use Prim.Native.Nat.{ℕ, zero, suc, ◌+◌, ◌-◌, ◌*◌, ◌≤◌, ◌<◌}
use native.Mathlib.Omega.{arith}
use lib.ListN.{length, drop, replicate, length-append, replicate-append-replicate}
use Rattle.numbers.specs.Lists.{Words}
use Rattle.numbers.proofs.WordsLaws.{words_none, words_head, words_tail, words_cons}
use Rattle.tape.specs.declared.Cursor.{Cursor}
use Rattle.tape.specs.Tape.{Ran, ended, ran, draw_at}
use Rattle.draws.specs.Draws.{Draws, done, draw, after, next, run, bind, turns}
use Rattle.draws.specs.Plan.{repeated, draw_all, skip_from, skipped, places}
use Rattle.draws.specs.Anew.{Same}
use Rattle.draws.proofs.Outcomes.{Always, holds, whatever, Plan, stops, draws, Gives, feed, Fits, none_left, one_more}
use Rattle.draws.proofs.RunLaws.{run_bind, run_draw, bind_ran, next_ran, draw_parts, bind_parts}
use Rattle.draws.proofs.DrawnLaws.{Drawn, drawn, drawn_below, drawn_moves, drawn_skips, drawn_runs, drawn_reads, same_within}

-- the rules of bind
pub always_bind : {A B : Type 0} {P : A → Type 0} (Q : B → Type 0) {d : Draws A} (f : A → Draws B) →
    Always P d → ((a : A) → P a → Always Q (f a)) → Always Q (bind d f)
unfolding bind
always_bind Q f (holds {a = a} h) g = g a h
always_bind Q f (whatever k) g = whatever (λ r l. always_bind Q f (k r l) g)

pub plan-bind : {A B : Type 0} {P : A → Type 0} {d : Draws A} {ms : List ℕ} (f : A → Draws B) (ns : List ℕ) →
    Plan d ms → Always P d → ((a : A) → P a → Plan (f a) ns) → Plan (bind d f) (ms ++ ns)
unfolding bind
plan-bind f ns (stops {a = a}) (holds h) g = g a h
plan-bind f ns (draws k) (whatever h) g = draws (λ r l. plan-bind f ns (k r l) (h r l) g)

pub gives_bind : {A B : Type 0} {P : A → Type 0} {Q : B → Type 0} {d : Draws A} {ms : List ℕ} (f : A → Draws B) (ns : List ℕ) →
    Gives P d ms → ((a : A) → P a → Gives Q (f a) ns) → Gives Q (bind d f) (ms ++ ns)
gives_bind {Q = Q} f ns g h =
    record {
      plan = plan-bind f ns g.plan g.always (λ a p. (h a p).plan);
      always = always_bind Q f g.always (λ a p. (h a p).always);
    }

-- a program and then steps without draws
pub always_map : {A B : Type 0} {P : A → Type 0} (Q : B → Type 0) {d : Draws A} (f : A → B) → Always P d → ((a : A) → P a → Q (f a)) → Always Q (bind d (λ a. done (f a)))
always_map Q f h g = always_bind Q (λ a. done (f a)) h (λ a p. holds (g a p))

pub plan-map : {A B : Type 0} {d : Draws A} {ms : List ℕ} (f : A → B) → Plan d ms → Plan (bind d (λ a. done (f a))) ms
unfolding bind
plan-map f stops = stops
plan-map f (draws k) = draws (λ r l. plan-map f (k r l))

pub gives_map : {A B : Type 0} {P : A → Type 0} (Q : B → Type 0) {d : Draws A} {ms : List ℕ} (f : A → B) → Gives P d ms → ((a : A) → P a → Q (f a)) → Gives Q (bind d (λ a. done (f a))) ms
gives_map Q f g h = record { plan = plan-map f g.plan; always = always_map Q f g.always h }

pub gives_done : {A : Type 0} {P : A → Type 0} {a : A} → P a → Gives P (done a) []
gives_done h = record { plan = stops; always = holds h }

pub gives_draw : {A : Type 0} {P : A → Type 0} {M : ℕ} {k : ℕ → Draws A} {ms : List ℕ} → ((r : ℕ) → r < M → Gives P (k r) ms) → Gives P (draw M k) (M ∷ ms)
gives_draw h = record { plan = draws (λ r l. (h r l).plan); always = whatever (λ r l. (h r l).always) }

-- the last time, and not the first, apart from the others
pub repeated_last : (k : ℕ) (ms : List ℕ) → repeated (suc k) ms ≡ repeated k ms ++ ms
unfolding repeated
repeated_last zero ms = append-nil ms
repeated_last (suc k) ms = ap (ms ++◌) (repeated_last k ms) ∙ sym (append_assoc ms (repeated k ms) ms)

pub repeated-length : (k : ℕ) (ms : List ℕ) → length (repeated k ms) ≡ k * length ms
unfolding repeated
repeated-length zero ms = omega arith
repeated-length (suc k) ms = length-append ms (repeated k ms) ∙ rw (repeated-length k ms) (omega arith)

-- turns that each make the draws of one plan
pub gives_rounds : {A : Type 0} (P : ℕ → A → Type 0) (f : ℕ → A → Draws A) (ms : List ℕ) (top : ℕ) →
    ((i : ℕ) (a : A) → i < top → P i a → Gives (P (suc i)) (f i a) ms) → (i k : ℕ) (a : A) → i + k ≤ top → P i a →
    Gives (P (i + k)) (turns f i k a) (repeated k ms)
unfolding turns repeated
gives_rounds P f ms top g i zero a h p = let e : i + 0 ≡ i = omega arith in rw e (gives_done p)
gives_rounds P f ms top g i (suc k) a h p =
    let e : i + suc k ≡ suc i + k = omega arith in
    rw e (gives_bind (λ b. turns f (suc i) k b) (repeated k ms) (g i a (omega arith) p) (λ b q. gives_rounds P f ms top g (suc i) k b (omega arith) q))

-- turns that each make d draws below M
pub gives_turns : {A : Type 0} (P : ℕ → A → Type 0) (f : ℕ → A → Draws A) (d M top : ℕ) →
    ((i : ℕ) (a : A) → i < top → P i a → Gives (P (suc i)) (f i a) (replicate d M)) → (i k : ℕ) (a : A) → i + k ≤ top → P i a →
    Gives (P (i + k)) (turns f i k a) (replicate (k * d) M)
unfolding repeated
gives_turns P f d M top g i k a h p = subst (Gives (P (i + k)) (turns f i k a)) (all k) (gives_rounds P f (replicate d M) top g i k a h p)
  where
    all : (k : ℕ) → repeated k (replicate d M) ≡ replicate (k * d) M
    all zero = let z : 0 * d ≡ 0 = omega arith in rw z
    all (suc k) = let z : suc k * d ≡ d + k * d = omega arith in rw (z, ← replicate-append-replicate d (k * d) M) (ap (replicate d M ++◌) (all k))

-- what always holds may be weakened
pub always_as : {A : Type 0} {P Q : A → Type 0} {d : Draws A} → ((a : A) → P a → Q a) → Always P d → Always Q d
always_as g (holds {a = a} h) = holds (g a h)
always_as g (whatever h) = whatever (λ r l. always_as g (h r l))

pub gives_as : {A : Type 0} {P Q : A → Type 0} {d : Draws A} {ms : List ℕ} → ((a : A) → P a → Q a) → Gives P d ms → Gives Q d ms
gives_as g h = record { plan = h.plan; always = always_as g h.always }

-- what always holds, holds of what a run gives
pub always_run : {A : Type 0} {P : A → Type 0} {d : Draws A} → Always P d → (tape : List ℕ) (p : Cursor) {a : A} {q : Cursor} → run d tape p ≡ ran a q → P a
unfolding run
always_run {P = P} (holds {a = b} h) tape p {a} e = let f : b ≡ a = cc in rw f at h
always_run (whatever {M = M} {k = k} h) tape p e =
    let (r, s, x, y) = draw_parts M k tape p e in
    always_run (h r (drawn_below (drawn x))) tape s y

-- ---- reading a plan

-- the draws of a plan, one by one: from p the draws below ms give rs, the words at the places ws gave them, and q is handed on
pub data Reads (tape : List ℕ) : List ℕ → Cursor → List ℕ → List ℕ → Cursor → Type 0 where
  none : {p : Cursor} → Reads tape [] p [] [] p
  one : {M : ℕ} {ms : List ℕ} {p : Cursor} {r : ℕ} {s : Cursor} {rs ws : List ℕ} {q : Cursor} →
      Drawn M tape p r s → Reads tape ms s rs ws q → Reads tape (M ∷ ms) p (r ∷ rs) ((s.at - 1) ∷ ws) q

pub reads_run : {tape ms : List ℕ} {p : Cursor} {rs ws : List ℕ} {q : Cursor} → Reads tape ms p rs ws q → run (draw_all ms) tape p ≡ ran rs q
unfolding draw_all run
reads_run none = refl
reads_run {tape} (one {M = M} {ms = ms} {p = p} {r = r} {s = s} {rs = rs} {q = q} x y) =
    run_draw M (λ r. bind (draw_all ms) (λ rs. done (r ∷ rs))) tape p r s (drawn_runs x)
    ∙ bind_ran (draw_all ms) (λ rs. done (r ∷ rs)) tape s rs q (reads_run y)

places_one : (M : ℕ) (ms : List ℕ) {tape : List ℕ} {p : Cursor} {r : ℕ} {s : Cursor} → Drawn M tape p r s → places (M ∷ ms) tape p ≡ (s.at - 1) ∷ places ms tape s
unfolding places after
places_one M ms {tape} a = ap (λ (y : Ran ℕ). after y [] (λ r q. (q.at - 1) ∷ places ms tape q)) (drawn_runs a)

pub reads_places : {tape ms : List ℕ} {p : Cursor} {rs ws : List ℕ} {q : Cursor} → Reads tape ms p rs ws q → places ms tape p ≡ ws
unfolding places
reads_places none = refl
reads_places (one {M = M} {ms = ms} {s = s} a x) = places_one M ms a ∙ ap ((s.at - 1) ∷◌) (reads_places x)

pub reads : (ms : List ℕ) {tape : List ℕ} {p : Cursor} {rs : List ℕ} {q : Cursor} → run (draw_all ms) tape p ≡ ran rs q → Reads tape ms p rs (places ms tape p) q
unfolding draw_all run places
reads [] {tape} {p} {rs} {q} e =
    let a : [] ≡ rs = cc in
    let b : p ≡ q = cc in
    subst₂ (λ (l : List ℕ) (c : Cursor). Reads tape [] p l [] c) a b none
reads (M ∷ ms) {tape} {p} {rs} {q} e =
    let (r, s, x, y) = draw_parts M (λ r. bind (draw_all ms) (λ rs. done (r ∷ rs))) tape p e in
    let (os, t, z, w) = bind_parts (draw_all ms) (λ rs. done (r ∷ rs)) tape s y in
    let a : r ∷ os ≡ rs = cc in
    let b : t ≡ q = cc in
    let f : (s.at - 1) ∷ places ms tape s ≡ places (M ∷ ms) tape p = sym (places_one M ms (drawn x)) in
    subst (λ (ws : List ℕ). Reads tape (M ∷ ms) p rs ws q) f
    (subst₂ (λ (l : List ℕ) (c : Cursor). Reads tape (M ∷ ms) p l ((s.at - 1) ∷ places ms tape s) c) a b (one (drawn x) (reads ms z)))

-- the draws are as many as the plan says, each below its modulus
pub reads_fit : {tape ms : List ℕ} {p : Cursor} {rs ws : List ℕ} {q : Cursor} → Reads tape ms p rs ws q → Fits ms rs
reads_fit none = none_left
reads_fit (one a x) = one_more (drawn_below a) (reads_fit x)

pub fits_length : {ms rs : List ℕ} → Fits ms rs → length rs ≡ length ms
fits_length none_left = refl
fits_length (one_more l x) = ap suc (fits_length x)

-- numbers for a plan that comes after another, taken apart
pub record FitBoth (ms ns rs : List ℕ) : Type 0 where
  pub fst : List ℕ
  pub snd : List ℕ
  pub all : rs ≡ fst ++ snd
  pub fit_fst : Fits ms fst
  pub fit_snd : Fits ns snd

pub fits_split : (ms : List ℕ) {ns rs : List ℕ} → Fits (ms ++ ns) rs → FitBoth ms ns rs
fits_split [] {rs = rs} x = record { fst = []; snd = rs; all = refl; fit_fst = none_left; fit_snd = x }
fits_split (M ∷ ms) (one_more {r = r} l x) =
    let b = fits_split ms x in
    record { fst = r ∷ b.fst; snd = b.snd; all = ap (r ∷◌) b.all; fit_fst = one_more l b.fit_fst; fit_snd = b.fit_snd }

-- and put together
pub fits_both : {ms ns rs os : List ℕ} → Fits ms rs → Fits ns os → Fits (ms ++ ns) (rs ++ os)
fits_both none_left g = g
fits_both (one_more l f) g = one_more l (fits_both f g)

-- k numbers below M are what k draws below M can give
pub words_fit : (k M : ℕ) (rs : List ℕ) → Words k M rs → Fits (replicate k M) rs
words_fit zero M [] w = none_left
words_fit zero M (r ∷ rs) w = absurd (omega (arith, w.size))
words_fit (suc k) M [] w = absurd (omega (arith, w.size))
words_fit (suc k) M (r ∷ rs) w = one_more (words_head w) (words_fit k M rs (words_tail w))

pub fits_words : (k M : ℕ) (rs : List ℕ) → Fits (replicate k M) rs → Words k M rs
fits_words zero M rs none_left = words_none
fits_words (suc k) M rs (one_more l f) = words_cons l (fits_words k M _ f)

-- the program that reads a plan gives what its draws can give
pub gives_all : (ms : List ℕ) → Gives (Fits ms) (draw_all ms) ms
unfolding draw_all
gives_all [] = gives_done none_left
gives_all (M ∷ ms) = gives_draw (λ r l. gives_map (Fits (M ∷ ms)) (r ∷◌) (gives_all ms) (λ rs f. one_more l f))

-- a planned program, run, is all its draws and then its value: where reading the plan gives rs and the place q, the run gives
-- the value fed by rs and the place q, and where reading the plan ends, so does the run
pub planned : {A : Type 0} {d : Draws A} {ms : List ℕ} → Plan d ms → (tape : List ℕ) (p : Cursor) →
    run d tape p ≡ next (run (draw_all ms) tape p) (λ rs q. ran (feed d rs) q)
unfolding run draw_all next feed after
planned stops tape p = refl
planned (draws {M = M} {k = k} {ms = ms} g) tape p = go (draw_at tape p M) refl (λ r l s. planned (g r l) tape s)
  where
    last : (r : ℕ) (x : Ran (List ℕ)) → next x (λ rs q. ran (feed (k r) rs) q) ≡ next (next x (λ rs q. ran (r ∷ rs) q)) (λ rs q. ran (feed (draw M k) rs) q)
    last r ended = refl
    last r (ran rs q) = refl

    go : (x : Ran ℕ) → draw_at tape p M ≡ x →
        ((r : ℕ) → r < M → (s : Cursor) → run (k r) tape s ≡ next (run (draw_all ms) tape s) (λ rs q. ran (feed (k r) rs) q)) →
        next x (λ r s. run (k r) tape s) ≡ next (next x (λ r s. run (bind (draw_all ms) (λ rs. done (r ∷ rs))) tape s)) (λ rs q. ran (feed (draw M k) rs) q)
    go ended e ih = refl
    go (ran r s) e ih =
        ih r (drawn_below (drawn e)) s
        ∙ last r (run (draw_all ms) tape s)
        ∙ ap (λ (x : Ran (List ℕ)). next x (λ rs q. ran (feed (draw M k) rs) q)) (sym (run_bind (draw_all ms) (λ rs. done (r ∷ rs)) tape s))

module _ {A : Type 0} {d : Draws A} {ms : List ℕ} (g : Plan d ms) (tape : List ℕ) (p : Cursor) where
  pub planned_ran : {rs : List ℕ} {q : Cursor} → run (draw_all ms) tape p ≡ ran rs q → run d tape p ≡ ran (feed d rs) q
  unfolding next after
  planned_ran e = planned g tape p ∙ rw e

  pub planned_ended : run (draw_all ms) tape p ≡ ended → run d tape p ≡ ended
  unfolding next after
  planned_ended e = planned g tape p ∙ rw e

  -- and back
  pub planned_parts : {a : A} {q : Cursor} → run d tape p ≡ ran a q → (rs : List ℕ) × (Reads tape ms p rs (places ms tape p) q) × (feed d rs ≡ a)
  planned_parts {a} {q} e =
      let (rs, s, x, y) = next_ran (run (draw_all ms) tape p) (λ rs q. ran (feed d rs) q) (sym (planned g tape p) ∙ e) in
      let b : s ≡ q = cc in
      (rs, reads ms (x ∙ ap (ran rs) b), cc)

-- what always holds, holds of every value that draws below their moduli can feed
pub always_feed : {A : Type 0} {P : A → Type 0} {d : Draws A} {ms : List ℕ} → Plan d ms → Always P d → (rs : List ℕ) → Fits ms rs → P (feed d rs)
unfolding feed
always_feed stops (holds h) rs none_left = h
always_feed (draws k) (whatever h) rs (one_more {r = r} l f) = always_feed (k r l) (h r l) _ f

-- a program after another, fed: the first takes as many draws as its plan says
pub feed_bind : {A B : Type 0} {d : Draws A} {ms : List ℕ} → Plan d ms → (f : A → Draws B) (rs os : List ℕ) → Fits ms rs →
    feed (bind d f) (rs ++ os) ≡ feed (f (feed d rs)) os
unfolding feed bind
feed_bind stops f rs os none_left = refl
feed_bind (draws k) f rs os (one_more {r = r} l h) = feed_bind (k r l) f _ os h

-- and with steps after it that make no draws
pub feed_map : {A B : Type 0} (d : Draws A) (f : A → B) (rs : List ℕ) → feed (bind d (λ a. done (f a))) rs ≡ f (feed d rs)
unfolding feed bind
feed_map (done a) f rs = refl
feed_map (draw M k) f [] = feed_map (k 0) f []
feed_map (draw M k) f (r ∷ rs) = feed_map (k r) f rs

-- two programs of one plan end at one place on one tape
pub one_place : {A B : Type 0} {d : Draws A} {e : Draws B} {ms : List ℕ} → Plan d ms → Plan e ms → (tape : List ℕ) (p : Cursor) {a : A} {q : Cursor} →
    run d tape p ≡ ran a q → (b : B) × (run e tape p ≡ ran b q)
one_place {e = e} g h tape p x = let (rs, r, _) = planned_parts g tape p x in (feed e rs, planned_ran h tape p (reads_run r))

pub both_end : {A B : Type 0} {d : Draws A} {e : Draws B} {ms : List ℕ} → Plan d ms → Plan e ms → (tape : List ℕ) (p : Cursor) → run d tape p ≡ ended → run e tape p ≡ ended
both_end {e = e} {ms = ms} g h tape p x = go (run (draw_all ms) tape p) refl
  where
    go : (y : Ran (List ℕ)) → run (draw_all ms) tape p ≡ y → run e tape p ≡ ended
    go ended i = planned_ended h tape p i
    go (ran rs q) i = let j = planned_ran g tape p i in let z : ◌≡◌ {A = ℕ} 0 1 = cc in absurd (omega arith)

-- words used = draws + skipped
pub reads_words : {tape ms : List ℕ} {p : Cursor} {rs ws : List ℕ} {q : Cursor} → Reads tape ms p rs ws q → q.at ≡ p.at + length ms + skipped ms tape p
unfolding skipped after
reads_words none = omega arith
reads_words {tape} (one {M = M} {ms = ms} {p = p} {r = r} {s = s} a x) =
    let k : s.at ≡ p.at + 1 + skip_from M (drop p.at tape) = drawn_skips a in
    let ih = reads_words x in
    let f : after (draw_at tape p M) 0 (λ r q. skipped ms tape q) ≡ skipped ms tape s = ap (λ (y : Ran ℕ). after y 0 (λ r q. skipped ms tape q)) (drawn_runs a) in
    omega (arith, ih, f)

-- so two readings of one plan from one place to one place skip as many words
pub one_skipped : {s t ms : List ℕ} {p : Cursor} {rs os vs ws : List ℕ} {q : Cursor} → Reads s ms p rs vs q → Reads t ms p os ws q → skipped ms s p ≡ skipped ms t p
one_skipped x y = omega (arith, reads_words x, reads_words y)

pub words_used : {A : Type 0} {d : Draws A} {ms : List ℕ} → Plan d ms → (tape : List ℕ) (p : Cursor) {a : A} {q : Cursor} →
    run d tape p ≡ ran a q → q.at ≡ p.at + length ms + skipped ms tape p
words_used g tape p e = reads_words (planned_parts g tape p e).1

-- ---- a run reads the words from its place up to the place that it hands on, and no other

pub run_moves : {A : Type 0} (d : Draws A) (tape : List ℕ) (p : Cursor) {a : A} {q : Cursor} → run d tape p ≡ ran a q → p.at ≤ q.at
unfolding run
run_moves (done b) tape p {a} {q} e = let x : p ≡ q = cc in rw x (omega arith)
run_moves (draw M k) tape p e =
    let (r, s, x, y) = draw_parts M k tape p e in
    omega (arith, (drawn_moves (drawn x)).0, run_moves (k r) tape s y)

pub run_reads : {A : Type 0} (d : Draws A) {s t : List ℕ} (p : Cursor) {a : A} {q : Cursor} → run d s p ≡ ran a q → Same s t p.at q.at → run d t p ≡ ran a q
unfolding run
run_reads (done b) p e h = e
run_reads (draw M k) {s} {t} p {q = q} e h =
    let (r, u, x, y) = draw_parts M k s p e in
    let i = (drawn_moves (drawn x)).0 in
    let j = run_moves (k r) s u y in
    run_draw M k t p r u (drawn_runs (drawn_reads (drawn x) (same_within p.at u.at (omega arith) j h)))
    ∙ run_reads (k r) u y (same_within u.at q.at (omega arith) (omega arith) h)
