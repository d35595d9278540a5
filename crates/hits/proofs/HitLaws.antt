-- A draw that is set anew to low bits that are not below its modulus is skipped, and then more words are used: so equal counts of words
-- show that every number that was set is below the modulus. The words of draws below one modulus are counted by those that hit.
use mathlib.Core.Path.{◌≡◌, refl, sym, ap, ap₂, subst, ◌∙◌}
use mathlib.Core.Bool.{Bool, true}
use mathlib.Core.List.{List, [], ◌∷◌, ◌++◌}
use Prim.Native.Nat.{ℕ, zero, suc, ◌+◌, ◌-◌, ◌≤◌, ◌<◌}
use native.Mathlib.Nat.{le_of_suc-le-suc}
use native.Mathlib.Numerals.{add-one}
use native.Mathlib.Omega.{arith}
use native.Mathlib.Decide.{dec_lt, ℕ_discrete}
use lib.ListN.{length, get_or, replicate}
use lib.Dec.{ltb}
use borrow.Author.Tests.{lt-ltb, le-ltb}
use Rattle.numbers.specs.Tests.{pick}
use Rattle.numbers.specs.Bits.{bits_of}
use Rattle.numbers.specs.Lists.{Words}
use Rattle.tape.specs.declared.Cursor.{Cursor}
use Rattle.tape.specs.Tape.{ran, low_bits}
use Rattle.draws.specs.Anew.{marked, marks_after, Among, Same, SetAnew}
use Rattle.draws.proofs.DrawnLaws.{Drawn, hit, skip, drawn_moves, drawn_gave, drawn_below}
use Rattle.draws.proofs.PlanLaws.{Reads, none, one, reads_run}
use Rattle.draws.proofs.MarksLaws.{among_marked, marked-after}
use Rattle.draws.proofs.AnewLaws.{among, reads_length, reads_moves, reads_within, reads_within_tape, reads_same}

-- 1 where the word at place i can give a draw below M, and 0 where it is skipped
hits_at : ℕ → List ℕ → ℕ → ℕ
hits_at M t i = pick (ltb (low_bits M (get_or t i 0)) M) 1 0

-- how many of the f words from place a on can
hits : ℕ → List ℕ → ℕ → ℕ → ℕ
hits M t a zero = 0
hits M t a (suc f) = hits_at M t a + hits M t (suc a) f

module _ (M : ℕ) (t : List ℕ) (i : ℕ) where
  hits_yes : low_bits M (get_or t i 0) < M → hits_at M t i ≡ 1
  unfolding hits_at
  hits_yes h = rw (lt-ltb (low_bits M (get_or t i 0)) M h)

  hits_no : M ≤ low_bits M (get_or t i 0) → hits_at M t i ≡ 0
  unfolding hits_at
  hits_no h = rw (le-ltb (low_bits M (get_or t i 0)) M h)

  hits_same : (s : List ℕ) → get_or t i 0 ≡ get_or s i 0 → hits_at M t i ≡ hits_at M s i
  unfolding hits_at
  hits_same s e = rw e

  hits_most : hits_at M t i ≤ 1
  hits_most = go (dec_lt (low_bits M (get_or t i 0)) M)
    where
      go : Dec (low_bits M (get_or t i 0) < M) → hits_at M t i ≤ 1
      go (yes y) = omega (arith, hits_yes y)
      go (no n) = omega (arith, hits_no (omega arith))

hits_split : (M : ℕ) (t : List ℕ) (a f g : ℕ) → hits M t a (f + g) ≡ hits M t a f + hits M t (a + f) g
unfolding hits
hits_split M t a zero g =
    let e : 0 + g ≡ g = omega arith in
    let h : a + 0 ≡ a = omega arith in
    rw (e, h) (omega arith)
hits_split M t a (suc f) g =
    let e : suc f + g ≡ suc (f + g) = omega arith in
    let h : a + suc f ≡ suc a + f = omega arith in
    rw (e, h) (omega (arith, hits_split M t (suc a) f g))

-- a draw reads one word that hits
drawn_hits : {M : ℕ} {t : List ℕ} {p : Cursor} {r : ℕ} {s : Cursor} → Drawn M t p r s → (f : ℕ) → p.at + f ≡ s.at → hits M t p.at f ≡ 1
unfolding hits
drawn_hits {M} {t} (hit {c = c} h e l) f o =
    let g : f ≡ 1 = omega arith in
    rw g (omega (arith, hits_yes M t c.at (omega arith)))
drawn_hits (skip h l d) zero o = let m = drawn_moves d in absurd (omega arith)
drawn_hits {M} {t} (skip {c = c} h l d) (suc f) o =
    let ih : hits M t (c.at + 1) f ≡ 1 = drawn_hits d f (omega arith) in
    omega (arith, hits_no M t c.at l, rw add-one at ih)

-- so k draws below M read k words that hit
reads_hits : (k M : ℕ) {t : List ℕ} {p : Cursor} {rs ws : List ℕ} {q : Cursor} → Reads t (replicate k M) p rs ws q → (f : ℕ) → p.at + f ≡ q.at → hits M t p.at f ≡ k
unfolding hits
reads_hits zero M none f o = let e : f ≡ 0 = omega arith in rw e
reads_hits (suc k) M {t} {p} (one {s = s} {q = q} a x) f o =
    let m = drawn_moves a in
    let n = reads_moves x in
    let e : f ≡ (s.at - p.at) + (q.at - s.at) = omega arith in
    let h : p.at + (s.at - p.at) ≡ s.at = omega arith in
    let one_hit : hits M t p.at (s.at - p.at) ≡ 1 = drawn_hits a (s.at - p.at) h in
    let others : hits M t s.at (q.at - s.at) ≡ k = reads_hits k M x (q.at - s.at) (omega arith) in
    rw e (hits_split M t p.at (s.at - p.at) (q.at - s.at) ∙ rw h (omega arith))

-- the words that gave draws below M hit
reads_hit : (k M : ℕ) {t : List ℕ} {p : Cursor} {rs ws : List ℕ} {q : Cursor} → Reads t (replicate k M) p rs ws q → (i : ℕ) → Among i ws → hits_at M t i ≡ 1
reads_hit zero M none i (a, l, e) = absurd (omega arith)
reads_hit (suc k) M {t} (one {s = s} a x) i (zero, l, e) = let g = drawn_gave a in rw (← e) (hits_yes M t (s.at - 1) (omega (arith, drawn_below a)))
reads_hit (suc k) M (one a x) i (suc b, l, e) = reads_hit k M x i (b, le_of_suc-le-suc l, e)

-- where no place hits more, and one hits less, fewer hit
module _ (M : ℕ) (s t : List ℕ) (none_more : (i : ℕ) → hits_at M t i ≤ hits_at M s i) where
  hits_le : (a f : ℕ) → hits M t a f ≤ hits M s a f
  unfolding hits
  hits_le a zero = omega arith
  hits_le a (suc f) = omega (arith, none_more a, hits_le (suc a) f)

  hits_lt : (a f i : ℕ) → a ≤ i → i < a + f → hits_at M t i < hits_at M s i → hits M t a f < hits M s a f
  unfolding hits
  hits_lt a zero i h l o = absurd (omega arith)
  hits_lt a (suc f) i h l o = go (ℕ_discrete i a) (λ n. hits_lt (suc a) f i (omega arith) (omega arith) o)
    where
      go : Dec (i ≡ a) → (¬ (i ≡ a) → hits M t (suc a) f < hits M s (suc a) f) → hits_at M t a + hits M t (suc a) f < hits_at M s a + hits M s (suc a) f
      go (yes e) ih = let z : hits_at M t a < hits_at M s a = rw e at o in omega (arith, hits_le (suc a) f)
      go (no n) ih = omega (arith, none_more a, ih n)

-- a plan and then another, read: taken apart
record ReadBoth (t ms ns : List ℕ) (p : Cursor) (ws : List ℕ) (q : Cursor) : Type 0 where
  mid : Cursor
  rs : List ℕ
  os : List ℕ
  us : List ℕ
  vs : List ℕ
  fst : Reads t ms p rs us mid
  snd : Reads t ns mid os vs q
  all : ws ≡ us ++ vs

reads_split : (ms : List ℕ) {ns t : List ℕ} {p : Cursor} {rs ws : List ℕ} {q : Cursor} → Reads t (ms ++ ns) p rs ws q → ReadBoth t ms ns p ws q
reads_split [] {p = p} {rs = rs} {ws = ws} x = record { mid = p; rs = []; os = rs; us = []; vs = ws; fst = none; snd = x; all = refl }
reads_split (m ∷ ms) (one {r = r} {s = s} a x) =
    let b = reads_split ms x in
    record { mid = b.mid; rs = r ∷ b.rs; os = b.os; us = (s.at - 1) ∷ b.us; vs = b.vs; fst = one a b.fst; snd = b.snd; all = ap ((s.at - 1) ∷◌) b.all }

-- from one place a plan is read to one place
one_mid : {t ms : List ℕ} {p : Cursor} {rs os us vs : List ℕ} {q r : Cursor} → Reads t ms p rs us q → Reads t ms p os vs r → q ≡ r
one_mid {rs = rs} {os = os} {q = q} {r = r} x y = let e : ran rs q ≡ ran os r = sym (reads_run x) ∙ reads_run y in cc

-- of a plan that ends with k draws below M, some of these draws are set anew to numbers of L bits; if the plan is then read to the same
-- place as before, those numbers are below M
pub set_below : (ms : List ℕ) (k M : ℕ) (bs : List Bool) {tape t : List ℕ} {p : Cursor} {rs ws os vs us : List ℕ} {q r : Cursor} →
    Reads tape (ms ++ replicate k M) p rs ws q → p.at ≤ length tape → SetAnew M tape (marked (marks_after ms bs) ws) us t →
    length (marked (marks_after ms bs) ws) ≡ length us → Reads t (ms ++ replicate k M) p os vs r → r.at ≡ q.at → Words (length us) M us
set_below ms k M bs {tape} {t} {p} {ws = ws} {vs = vs} {us = us} {q = q} {r = r} x h n size y e =
    record { size = refl; below = λ a l. go a l (dec_lt (get_or us a 0) M) }
  where
    b : ReadBoth tape ms (replicate k M) p ws q
    b = reads_split ms x

    d : ReadBoth t ms (replicate k M) p vs r
    d = reads_split ms y

    set-places : List ℕ
    set-places = marked (marks_after ms bs) ws

    -- the words that were set are among those that gave the last draws
    last : (i : ℕ) → Among i set-places → Among i b.vs
    last i m =
        among_marked bs b.vs i
        (rw (ap (marked (marks_after ms bs)) b.all ∙ marked-after ms b.us b.vs bs (reads_length b.fst)) at m)

    -- so the draws before them are as they were
    same : Same tape t p.at b.mid.at
    same =
        record {
          reaches = omega (arith, n.size, reads_within_tape b.fst h);
          words = λ i m l. sym (n.others i (λ a. let w = reads_within b.snd i (last i a) in omega arith));
        }

    middle : b.mid ≡ d.mid
    middle = one_mid (reads_same b.fst same) d.fst

    count : ℕ
    count = q.at - b.mid.at

    before : hits M tape b.mid.at count ≡ k
    before = let m = reads_moves b.snd in reads_hits k M b.snd count (omega arith)

    now : hits M t b.mid.at count ≡ k
    now =
        let m = reads_moves b.snd in
        let f : d.mid.at + count ≡ r.at = omega (arith, ap (λ (c : Cursor). c.at) middle) in
        ap (λ (c : Cursor). hits M t c.at count) middle ∙ reads_hits k M d.snd count f

    none_more : (i : ℕ) → hits_at M t i ≤ hits_at M tape i
    none_more i = at (among i set-places)
      where
        at : Dec (Among i set-places) → hits_at M t i ≤ hits_at M tape i
        at (yes m) = omega (arith, hits_most M t i, reads_hit k M b.snd i (last i m))
        at (no m) = omega (arith, hits_same M t i tape (n.others i m))

    go : (a : ℕ) → a < length us → Dec (get_or us a 0 < M) → get_or us a 0 < M
    go a l (yes o) = o
    go a l (no o) =
        let i : ℕ = get_or set-places a 0 in
        let m : Among i set-places = (a, omega (arith, size), refl) in
        let w = reads_within b.snd i (last i m) in
        let miss : hits_at M t i ≡ 0 = hits_no M t i (omega (arith, n.low a (omega (arith, size)))) in
        let fewer : hits M t b.mid.at count < hits M tape b.mid.at count =
        hits_lt M tape t none_more b.mid.at count i w.0 (omega (arith, w.1)) (omega (arith, miss, reads_hit k M b.snd i (last i m))) in
        absurd (omega (arith, before, now))

-- a place that hits is counted
hits_one : (M : ℕ) (t : List ℕ) (a f i : ℕ) → a ≤ i → i < a + f → hits_at M t i ≤ hits M t a f
unfolding hits
hits_one M t a zero i h l = absurd (omega arith)
hits_one M t a (suc f) i h l = go (ℕ_discrete i a) (λ n. hits_one M t (suc a) f i (omega arith) (omega arith))
  where
    go : Dec (i ≡ a) → (¬ (i ≡ a) → hits_at M t i ≤ hits M t (suc a) f) → hits_at M t i ≤ hits_at M t a + hits M t (suc a) f
    go (yes e) ih = rw e (omega arith)
    go (no n) ih = omega (arith, ih n)

-- words that agree from a on have the same hits there
hits_agree : (M : ℕ) (s t : List ℕ) (a f : ℕ) → ((i : ℕ) → a ≤ i → get_or s i 0 ≡ get_or t i 0) → hits M s a f ≡ hits M t a f
unfolding hits
hits_agree M s t a zero same = refl
hits_agree M s t a (suc f) same =
    ap₂ ◌+◌ (hits_same M s a t (same a (omega arith))) (hits_agree M s t (suc a) f (λ i h. same i (omega arith)))

-- of a plan that ends with a draw below N and k draws below M, which have as many bits, the first of these is set anew to a number of L bits; if the
-- plan is then read to the same place as before, that number is below N
module _ (N k M : ℕ) (less : N ≤ M) (bits : bits_of N ≡ bits_of M) {tape t : List ℕ} {c s s1 : Cursor} {v v1 u : ℕ}
    (a : Drawn N tape c v s) (b : Drawn N t c v1 s1) (others : (i : ℕ) → ¬ (i ≡ s.at - 1) → get_or t i 0 ≡ get_or tape i 0)
    (low : low_bits N (get_or t (s.at - 1) 0) ≡ u) (skips : N ≤ u) where
  none_more_hit : (i : ℕ) → hits_at N t i ≤ hits_at N tape i
  none_more_hit i = at (ℕ_discrete i (s.at - 1))
    where
      at : Dec (i ≡ s.at - 1) → hits_at N t i ≤ hits_at N tape i
      at (yes e) = rw e (omega (arith, hits_no N t (s.at - 1) (omega arith)))
      at (no n) = omega (arith, hits_same N t i tape (others i n))

  -- the word is skipped, so the draw reads on
  reads_on : s.at < s1.at
  reads_on = go (dec_lt s.at s1.at)
    where
      m : (c.at < s.at) × (s.at ≤ length tape)
      m = drawn_moves a

      m1 : (c.at < s1.at) × (s1.at ≤ length t)
      m1 = drawn_moves b

      -- no word up to there hits
      none_hit : hits N t c.at (s.at - c.at) ≡ 0
      none_hit =
          let one : hits N tape c.at (s.at - c.at) ≡ 1 = drawn_hits a (s.at - c.at) (omega (arith, m, m1)) in
          let hit-there : hits_at N tape (s.at - 1) ≡ 1 = hits_yes N tape (s.at - 1) (omega (arith, drawn_gave a, drawn_below a)) in
          omega (arith, hits_lt N tape t none_more_hit c.at (s.at - c.at) (s.at - 1) (omega (arith, m, m1)) (omega (arith, m, m1)) (omega (arith, hits_no N t (s.at - 1) (omega arith))))

      go : Dec (s.at < s1.at) → s.at < s1.at
      go (yes l) = l
      go (no n) =
          let hit-there : hits_at N t (s1.at - 1) ≡ 1 = hits_yes N t (s1.at - 1) (omega (arith, drawn_gave b, drawn_below b)) in
          absurd (omega (arith, none_hit, hits_one N t c.at (s.at - c.at) (s1.at - 1) (omega (arith, m, m1)) (omega (arith, m, m1))))

  -- and then the others, too, end further on
  ends_further : {rs ws os vs : List ℕ} {q : Cursor} → Reads tape (replicate k M) s rs ws q → {r : Cursor} → Reads t (replicate k M) s1 os vs r → r.at ≡ q.at → ⊥
  unfolding low_bits
  ends_further {q = q} x {r} y e =
      let m = reads_moves x in
      let m1 = reads_moves y in
      let o = reads_on in
      let d : ℕ = s1.at - s.at in
      let f : ℕ = r.at - s1.at in
      let before : hits M tape s.at (q.at - s.at) ≡ k = reads_hits k M x (q.at - s.at) (omega arith) in
      let now : hits M t s1.at f ≡ k = reads_hits k M y f (omega arith) in
      let same : hits M t s.at (q.at - s.at) ≡ hits M tape s.at (q.at - s.at) = hits_agree M t tape s.at (q.at - s.at) (λ i h. others i (omega (arith, (drawn_moves a).0))) in
      let there : s.at + d ≡ s1.at = omega arith in
      let whole : q.at - s.at ≡ d + f = omega arith in
      let split : hits M t s.at (d + f) ≡ hits M t s.at d + hits M t s1.at f = hits_split M t s.at d f ∙ ap (λ (j : ℕ). hits M t s.at d + hits M t j f) there in
      let small : low_bits M (get_or t (s1.at - 1) 0) < M = rw (← bits) (omega (arith, drawn_gave b, drawn_below b)) in
      let hit-there : hits_at M t (s1.at - 1) ≡ 1 = hits_yes M t (s1.at - 1) small in
      omega (arith, hits_one M t s.at d (s1.at - 1) (omega arith) (omega arith), rw whole at same, rw whole at before)

pub set_first_below : (ms : List ℕ) (N k M : ℕ) → N ≤ M → bits_of N ≡ bits_of M → {tape t : List ℕ} {p : Cursor} {rs ws os vs : List ℕ} {u : ℕ} {q r : Cursor} →
    Reads tape (ms ++ (N ∷ replicate k M)) p rs ws q → p.at ≤ length tape → SetAnew N tape (marked (marks_after ms (true ∷ [])) ws) (u ∷ []) t →
    Reads t (ms ++ (N ∷ replicate k M)) p os vs r → r.at ≡ q.at → u < N
unfolding marked
set_first_below ms N k M less bits {tape} {t} {p} {ws = ws} {vs = vs} {u = u} {q = q} {r = r} x h n y e = go b.snd d.snd b.all
  where
    b : ReadBoth tape ms (N ∷ replicate k M) p ws q
    b = reads_split ms x

    d : ReadBoth t ms (N ∷ replicate k M) p vs r
    d = reads_split ms y

    go : {os1 vs1 os2 vs2 : List ℕ} → Reads tape (N ∷ replicate k M) b.mid os1 vs1 q → Reads t (N ∷ replicate k M) d.mid os2 vs2 r → ws ≡ b.us ++ vs1 → u < N
    go (one {s = s} {ws = rest} dr x1) (one {r = v1} {s = s1} dr1 y1) all = below (dec_lt u N)
      where
        place : marked (marks_after ms (true ∷ [])) ws ≡ (s.at - 1) ∷ []
        place = ap (marked (marks_after ms (true ∷ []))) all ∙ marked-after ms b.us ((s.at - 1) ∷ rest) (true ∷ []) (reads_length b.fst)

        set : SetAnew N tape ((s.at - 1) ∷ []) (u ∷ []) t
        set = subst (λ (l : List ℕ). SetAnew N tape l (u ∷ []) t) place n

        here : (i : ℕ) → Among i ((s.at - 1) ∷ []) → i ≡ s.at - 1
        here i (zero, l, f) = sym f
        here i (suc a, l, f) = absurd (omega arith)

        others : (i : ℕ) → ¬ (i ≡ s.at - 1) → get_or t i 0 ≡ get_or tape i 0
        others i m = set.others i (λ a. m (here i a))

        same : Same tape t p.at b.mid.at
        same =
            record {
              reaches = omega (arith, set.size, reads_within_tape b.fst h);
              words = λ i m l. sym (others i (omega (arith, (drawn_moves dr).0)));
            }

        middle : d.mid ≡ b.mid
        middle = sym (one_mid (reads_same b.fst same) d.fst)

        below : Dec (u < N) → u < N
        below (yes l) = l
        below (no m) = absurd (ends_further N k M less bits dr (subst (λ (c : Cursor). Drawn N t c v1 s1) middle dr1) others (set.low 0 (omega arith)) (omega arith) x1 y1 e)
