-- Laws of draws set anew: which words change, what they become, and what is then read.
use mathlib.Core.Path.{◌≡◌, refl, sym, ap, ap₂, subst, ◌∙◌}
use mathlib.Core.Bool.{Bool, true, false}
use mathlib.Core.List.{List, [], ◌∷◌}
use Prim.Native.Nat.{ℕ, zero, suc, ◌+◌, ◌-◌, ◌*◌, ◌/◌, ◌^◌, ◌≤◌, ◌<◌, suc-le-suc}
use native.Mathlib.Nat.{le_of_suc-le-suc, div-add-mod', div-lt_iff_lt-mul}
use native.Mathlib.Omega.{arith}
use native.Mathlib.Decide.{dec_lt, ℕ_discrete}
use lib.Pow.{pow_pos, pow-add, shr_lt}
use lib.ListN.{length, get_or, set, replicate, length-set, length-replicate}
use lib.Seq.{get_or-set_same, get_or-set_other, set_out, ext_get_or}
use Rattle.numbers.specs.Bits.{bits_of}
use Rattle.numbers.specs.Lists.{Words}
use Rattle.numbers.proofs.BitsLaws.{bits_smallest}
use Rattle.numbers.proofs.WordsLaws.{words_head, words_tail, words_up}
use Rattle.tape.specs.declared.Cursor.{Cursor}
use Rattle.tape.specs.Tape.{ran, low_bits}
use Rattle.draws.specs.Draws.{Draws, run}
use Rattle.draws.specs.Plan.{places, skipped}
use Rattle.draws.specs.Anew.{high_bits, with_low, set_at, marked, anew, Among, Same, SetAnew, ExactlyOne, OneAnew}
use Rattle.draws.proofs.Outcomes.{Plan, feed, merged, Marks}
use Rattle.draws.proofs.DrawnLaws.{Drawn, drawn_moves, drawn_reads, drawn_anew, same_within, with_low_lem, with_high}
use Rattle.draws.proofs.PlanLaws.{Reads, none, one, reads_run, reads_places, one_skipped, planned_ran}
use Rattle.draws.proofs.MarksLaws.{among_marked, marked-length}

-- ---- words changed at any places, in any order

set_at-length : (M : ℕ) (tape ws rs : List ℕ) → length (set_at M tape ws rs) ≡ length tape
unfolding set_at
set_at-length M tape [] rs = refl
set_at-length M tape (w ∷ ws) [] = refl
set_at-length M tape (w ∷ ws) (r ∷ rs) =
    let x : ℕ = with_low M (get_or tape w 0) r in
    set_at-length M (set tape w x) ws rs ∙ length-set tape w x

-- every other word stays
set_at_other : (M : ℕ) (tape ws rs : List ℕ) (i : ℕ) → ¬ (Among i ws) → get_or (set_at M tape ws rs) i 0 ≡ get_or tape i 0
unfolding set_at
set_at_other M tape [] rs i n = refl
set_at_other M tape (w ∷ ws) [] i n = refl
set_at_other M tape (w ∷ ws) (r ∷ rs) i n =
    let x : ℕ = with_low M (get_or tape w 0) r in
    set_at_other M (set tape w x) ws rs i (λ a. n (suc a.0, suc-le-suc a.1, a.2))
    ∙ get_or-set_other tape w i x 0 (λ e. n (0, suc-le-suc (omega arith), sym e))

-- the high bits of every word stay
set_at_high : (M : ℕ) (tape ws rs : List ℕ) → Words (length ws) (2 ^ bits_of M) rs → (i : ℕ) → high_bits M (get_or (set_at M tape ws rs) i 0) ≡ high_bits M (get_or tape i 0)
unfolding set_at
set_at_high M tape [] rs v i = refl
set_at_high M tape (w ∷ ws) [] v i = refl
set_at_high M tape (w ∷ ws) (r ∷ rs) v i = set_at_high M (set tape w x) ws rs (words_tail v) i ∙ here (ℕ_discrete i w) (dec_lt w (length tape))
  where
    x : ℕ
    x = with_low M (get_or tape w 0) r

    here : Dec (i ≡ w) → Dec (w < length tape) → high_bits M (get_or (set tape w x) i 0) ≡ high_bits M (get_or tape i 0)
    here (no n) l = ap (high_bits M) (get_or-set_other tape w i x 0 n)
    here (yes e) (no n) = ap (λ (t : List ℕ). high_bits M (get_or t i 0)) (set_out tape w x (omega arith))
    here (yes e) (yes l) =
        rw e (ap (high_bits M) (get_or-set_same tape w x 0 l) ∙ with_high M (get_or tape w 0) r (words_head v))

-- no place comes twice
data Distinct : List ℕ → Type 0 where
  no_place : Distinct []
  and_place : {w : ℕ} {ws : List ℕ} → ¬ (Among w ws) → Distinct ws → Distinct (w ∷ ws)

-- the low bits of the words at those places are what was put there
set_at_low : (M : ℕ) (tape ws rs : List ℕ) → Distinct ws → ((i : ℕ) → Among i ws → i < length tape) → Words (length ws) (2 ^ bits_of M) rs →
    (a : ℕ) → a < length ws → low_bits M (get_or (set_at M tape ws rs) (get_or ws a 0) 0) ≡ get_or rs a 0
unfolding set_at
set_at_low M tape [] rs d l v a h = absurd (omega arith)
set_at_low M tape (w ∷ ws) [] d l v a h = absurd (omega (arith, v.size))
set_at_low M tape (w ∷ ws) (r ∷ rs) (and_place n d) l v zero h =
    let x : ℕ = with_low M (get_or tape w 0) r in
    let o : w < length tape = l w (0, h, refl) in
    ap (low_bits M) (set_at_other M (set tape w x) ws rs w n ∙ get_or-set_same tape w x 0 o) ∙ with_low_lem M (get_or tape w 0) r (words_head v)
set_at_low M tape (w ∷ ws) (r ∷ rs) (and_place n d) l v (suc a) h =
    let x : ℕ = with_low M (get_or tape w 0) r in
    set_at_low M (set tape w x) ws rs d (λ i b. omega (arith, length-set tape w x, l i (suc b.0, suc-le-suc b.1, b.2))) (words_tail v) a (le_of_suc-le-suc h)

-- ---- the places of a plan that is read

pub reads_length : {tape ms : List ℕ} {p : Cursor} {rs ws : List ℕ} {q : Cursor} → Reads tape ms p rs ws q → length ws ≡ length ms
reads_length none = refl
reads_length (one a x) = ap suc (reads_length x)

pub reads_moves : {tape ms : List ℕ} {p : Cursor} {rs ws : List ℕ} {q : Cursor} → Reads tape ms p rs ws q → p.at ≤ q.at
reads_moves none = omega arith
reads_moves (one a x) = omega (arith, (drawn_moves a).0, reads_moves x)

-- and past the tape's end nothing is read
pub reads_within_tape : {tape ms : List ℕ} {p : Cursor} {rs ws : List ℕ} {q : Cursor} → Reads tape ms p rs ws q → p.at ≤ length tape → q.at ≤ length tape
reads_within_tape none h = h
reads_within_tape (one a x) h = reads_within_tape x (drawn_moves a).1

-- they lie from the place where the reading began up to the place that it hands on
pub reads_within : {tape ms : List ℕ} {p : Cursor} {rs ws : List ℕ} {q : Cursor} → Reads tape ms p rs ws q → (i : ℕ) → Among i ws → (p.at ≤ i) × (i < q.at)
reads_within none i (a, l, e) = absurd (omega arith)
reads_within (one a x) i (zero, l, e) = let o = drawn_moves a in let y = reads_moves x in (omega (arith, e), omega (arith, e))
reads_within (one a x) i (suc b, l, e) =
    let o = drawn_moves a in
    let w = reads_within x i (b, le_of_suc-le-suc l, e) in
    (omega arith, w.1)

-- a plan reads the words from its place up to the place that it hands on, and no other
pub reads_same : {s t ms : List ℕ} {p : Cursor} {rs ws : List ℕ} {q : Cursor} → Reads s ms p rs ws q → Same s t p.at q.at → Reads t ms p rs ws q
reads_same none h = none
reads_same (one {p = p} {s = u} {q = q} a x) h =
    let o = drawn_moves a in
    let y = reads_moves x in
    one (drawn_reads a (same_within p.at u.at (omega arith) y h))
    (reads_same x (same_within u.at q.at (omega arith) (omega arith) h))

-- and no place comes twice, nor lies past the tape's end
reads_distinct : {tape ms : List ℕ} {p : Cursor} {rs ws : List ℕ} {q : Cursor} → Reads tape ms p rs ws q → (bs : List Bool) → Distinct (marked bs ws)
unfolding marked
reads_distinct x [] = no_place
reads_distinct none (b ∷ bs) = no_place
reads_distinct (one {ms = ms} a x) (false ∷ bs) = reads_distinct {ms = ms} x bs
reads_distinct (one {ms = ms} {s = s} {ws = ws} a x) (true ∷ bs) =
    let o = drawn_moves a in
    let n : ¬ (Among (s.at - 1) (marked bs ws)) = λ y. let w = reads_within x (s.at - 1) (among_marked bs ws (s.at - 1) y) in omega arith in
    and_place n (reads_distinct {ms = ms} x bs)

pub reads_on_tape : {tape ms : List ℕ} {p : Cursor} {rs ws : List ℕ} {q : Cursor} → Reads tape ms p rs ws q → (i : ℕ) → Among i ws → i < length tape
reads_on_tape none i (a, l, e) = absurd (omega arith)
reads_on_tape (one a x) i (zero, l, e) = let o = drawn_moves a in omega (arith, e)
reads_on_tape (one a x) i (suc b, l, e) = reads_on_tape x i (b, le_of_suc-le-suc l, e)

-- ---- marked draws, set anew one after another

-- nothing before a plan's place changes when draws of the plan are set anew
before_same : (bs : List Bool) (M : ℕ) {tape ms : List ℕ} {p : Cursor} {rs ws : List ℕ} {q : Cursor} → Reads tape ms p rs ws q → p.at ≤ length tape → (us : List ℕ) (b : ℕ) →
    Same tape (set_at M tape (marked bs ws) us) b p.at
before_same bs M {tape} {ws = ws} x r us b =
    record {
      reaches = omega (arith, set_at-length M tape (marked bs ws) us);
      words = λ i h l. sym (set_at_other M tape (marked bs ws) us i (λ y. let w = reads_within x i (among_marked bs ws i y) in omega arith));
    }

-- nothing after a draw changes when it is set anew
after_same : {M : ℕ} {tape : List ℕ} {p : Cursor} {r : ℕ} {s : Cursor} → Drawn M tape p r s → (x b : ℕ) → b ≤ length tape → Same tape (set tape (s.at - 1) x) s.at b
after_same {tape = tape} {s = s} a x b e =
    let o = drawn_moves a in
    record { reaches = omega (arith, length-set tape (s.at - 1) x); words = λ i h l. sym (get_or-set_other tape (s.at - 1) i x 0 (omega arith)) }

-- the marked draws are those that were set, the others are as they were, and every place stays
set-marked : (M : ℕ) → M ≤ 2 ^ bits_of M → (bs : List Bool) (k : ℕ) {tape ms : List ℕ} {p : Cursor} {rs ws : List ℕ} {q : Cursor} → Reads tape ms p rs ws q →
    Marks bs ms k M → (us : List ℕ) → Words k M us → Reads (set_at M tape (marked bs ws) us) ms p (merged bs rs us) ws q
unfolding set_at marked merged
set-marked M f [] k x mk us w = x
set-marked M f (b ∷ bs) k none mk us w = none
set-marked M f (false ∷ bs) k {p = p} (one a x) mk us w = one (drawn_reads a (before_same bs M x (drawn_moves a).1 us p.at)) (set-marked M f bs k x mk us w)
set-marked M f (true ∷ bs) zero (one a x) mk us w = absurd (omega (arith, ap length mk))
set-marked M f (true ∷ bs) (suc k) (one a x) mk [] w = absurd (omega (arith, w.size))
set-marked M f (true ∷ bs) (suc k) {tape} {p = p} (one {M = m} {ms = ms} {r = r} {s = s} {ws = ws} {q = q} a x) mk (u ∷ us) w =
    let e : m ≡ M = cc in
    let mk' : marked bs ms ≡ replicate k M = cc in
    let v : ℕ = with_low M (get_or tape (s.at - 1) 0) u in
    let t : List ℕ = set tape (s.at - 1) v in
    let y : Reads t ms s _ ws q = reads_same x (after_same a v q.at (reads_within_tape x (drawn_moves a).1)) in
    let d : Drawn M t p u s = drawn_anew (subst (λ (j : ℕ). Drawn j tape p r s) e a) u (words_head w) (omega (arith, words_head w)) in
    one (subst (λ (j : ℕ). Drawn j (set_at M t (marked bs ws) us) p u s) (sym e) (drawn_reads d (before_same bs M y (drawn_moves d).1 us p.at)))
    (set-marked M f bs k {tape = t} y mk' us (words_tail w))

-- ---- the places and what is put there decide the tape

pub among : (i : ℕ) (ws : List ℕ) → Dec (Among i ws)
among i [] = no (λ a. let h = a.1 in omega arith)
among i (w ∷ ws) = go (ℕ_discrete w i) (among i ws)
  where
    none_of : ¬ (w ≡ i) → ¬ (Among i ws) → ¬ (Among i (w ∷ ws))
    none_of n b (zero, l, e) = n e
    none_of n b (suc a, l, e) = b (a, le_of_suc-le-suc l, e)

    go : Dec (w ≡ i) → Dec (Among i ws) → Dec (Among i (w ∷ ws))
    go (yes e) b = let l : 0 < suc (length ws) = omega arith in yes (0, l, e)
    go (no n) (yes b) = yes (suc b.0, suc-le-suc b.1, b.2)
    go (no n) (no b) = no (none_of n b)

by_bits : (M v w : ℕ) → high_bits M v ≡ high_bits M w → low_bits M v ≡ low_bits M w → v ≡ w
unfolding high_bits low_bits
by_bits M v w h l = sym (div-add-mod' v (2 ^ bits_of M)) ∙ ap₂ (λ (x y : ℕ). x * 2 ^ bits_of M + y) h l ∙ div-add-mod' w (2 ^ bits_of M)

pub set_anew_unique : {M : ℕ} {tape ws rs t u : List ℕ} → SetAnew M tape ws rs t → SetAnew M tape ws rs u → t ≡ u
set_anew_unique {M} {tape} {ws} {rs} {t} {u} a b = ext_get_or 0 t u (a.size ∙ sym b.size) (λ i h. go i (among i ws))
  where
    go : (i : ℕ) → Dec (Among i ws) → get_or t i 0 ≡ get_or u i 0
    go i (no n) = a.others i n ∙ sym (b.others i n)
    go i (yes (c, l, e)) =
        by_bits M (get_or t i 0) (get_or u i 0) (a.high i ∙ sym (b.high i))
        (rw e at (a.low c l ∙ sym (b.low c l)))

-- words with the same high bits are both of 32 bits
high_under : (j k v w : ℕ) → v / 2 ^ k ≡ w / 2 ^ k → w < 2 ^ (j + k) → v < 2 ^ (j + k)
high_under j k v w e h =
    let x : v / 2 ^ k < 2 ^ j = rw e (shr_lt j k h) in
    rw (pow-add 2 j k) ((div-lt_iff_lt-mul (pow_pos k)).0 x)

high_word : (M v w : ℕ) → high_bits M v ≡ high_bits M w → w < 2 ^ 32 → v < 2 ^ 32
unfolding high_bits bits_of
high_word M v w e h =
    let b : (32 - bits_of M) + bits_of M ≡ 32 = omega arith in
    subst (λ (n : ℕ). v < 2 ^ n) b (high_under (32 - bits_of M) (bits_of M) v w e (subst (λ (n : ℕ). w < 2 ^ n) (sym b) h))

-- ---- the marked ones of the draws ms, which are k draws below M, set anew, on a tape on which the draws ms gave rs and ended at q
module _ (bs : List Bool) (k M : ℕ) {tape ms : List ℕ} {p : Cursor} {rs : List ℕ} {q : Cursor} (x : Reads tape ms p rs (places ms tape p) q) (mk : Marks bs ms k M) (us : List ℕ) where
  -- to any numbers of L bits: nothing but the low bits of the words that gave the marked draws is changed
  module _ (w : Words k (2 ^ bits_of M) us) where
    pub anew_is : SetAnew M tape (marked bs (places ms tape p)) us (anew bs M ms tape p us)
    unfolding anew
    anew_is =
        let ws : List ℕ = marked bs (places ms tape p) in
        let e : length ws ≡ k = marked-length bs (places ms tape p) ms (reads_length x) ∙ ap length mk ∙ length-replicate k M in
        let v : Words (length ws) (2 ^ bits_of M) us = rw e w in
        record {
          size = set_at-length M tape ws us;
          others = set_at_other M tape ws us;
          high = set_at_high M tape ws us v;
          low = set_at_low M tape ws us (reads_distinct x bs) (λ i b. reads_on_tape x i (among_marked bs (places ms tape p) i b)) v;
        }

    -- and no other tape has those bits changed alone
    pub anew_only : (t : List ℕ) → SetAnew M tape (marked bs (places ms tape p)) us t → t ≡ anew bs M ms tape p us
    anew_only t o = set_anew_unique o anew_is

    -- a tape of 32-bit words stays one
    pub anew-word : ((i : ℕ) → get_or tape i 0 < 2 ^ 32) → (i : ℕ) → get_or (anew bs M ms tape p us) i 0 < 2 ^ 32
    anew-word f i = high_word M (get_or (anew bs M ms tape p us) i 0) (get_or tape i 0) (anew_is.high i) (f i)

  -- to numbers below M: the marked draws are us, the others as they were, and every place stays
  module _ (h : 0 < M) (l : M ≤ 2 ^ 32) (w : Words k M us) where
    pub anew_reads : Reads (anew bs M ms tape p us) ms p (merged bs rs us) (places ms tape p) q
    unfolding anew
    anew_reads = set-marked M (bits_smallest M h l).holds bs k x mk us w

    pub anew-places : places ms (anew bs M ms tape p us) p ≡ places ms tape p
    anew-places = reads_places anew_reads

    -- so a program with that plan gives what it gives when it is fed those numbers, and ends where it did
    pub anew-run : {A : Type 0} (e : Draws A) → Plan e ms → run e (anew bs M ms tape p us) p ≡ ran (feed e (merged bs rs us)) q
    anew-run e g = planned_ran g (anew bs M ms tape p us) p (reads_run anew_reads)

    -- as many words are skipped
    pub anew-skipped : skipped ms (anew bs M ms tape p us) p ≡ skipped ms tape p
    anew-skipped = one_skipped anew_reads x

-- exactly one list has Q where exactly one has P and, among lists of k numbers below M, the two say the same
pub exactly_as : {k M : ℕ} {P : List ℕ → Type 0} (Q : List ℕ → Type 0) →
    ((rs : List ℕ) → Words k M rs → P rs → Q rs) → ((rs : List ℕ) → Words k M rs → Q rs → P rs) → ExactlyOne k M P → ExactlyOne k M Q
exactly_as Q f g e =
    record {
      setting = e.setting;
      words = e.words;
      works = f e.setting e.words e.works;
      only = λ rs w u. e.only rs w (g rs w u);
    }

-- exactly one has Q among the lists of k numbers below N too, if those that have it are below M
pub exactly_up : {k M N : ℕ} {Q : List ℕ → Type 0} → M ≤ N → ((rs : List ℕ) → Words k N rs → Q rs → Words k M rs) → ExactlyOne k M Q → ExactlyOne k N Q
exactly_up h f e =
    record {
      setting = e.setting;
      words = words_up h e.words;
      works = e.works;
      only = λ rs w u. e.only rs (f rs w u) u;
    }

-- so it is enough that exactly one list of numbers below M makes such a tape, and that every list that does is one
pub one_anew : (bs : List Bool) (k M : ℕ) {tape ms : List ℕ} {p : Cursor} {rs : List ℕ} {q : Cursor} → Reads tape ms p rs (places ms tape p) q → Marks bs ms k M →
    0 < M → M ≤ 2 ^ 32 → {Q : List ℕ → Type 0} → ((us : List ℕ) → Words k (2 ^ bits_of M) us → Q (anew bs M ms tape p us) → Words k M us) →
    ExactlyOne k M (λ us. Q (anew bs M ms tape p us)) → OneAnew bs k M ms tape p Q
one_anew bs k M x mk h l below e =
    record {
      one = exactly_up (bits_smallest M h l).holds below e;
      nothing_else = λ us w. anew_is bs k M x mk us w;
      still_words = λ us w. anew-word bs k M x mk us w;
    }
