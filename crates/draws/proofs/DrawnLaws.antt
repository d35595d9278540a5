-- Laws of one draw. Whatever is known of a draw is proved by going along the words that it read (Drawn).
use mathlib.Core.Path.{◌≡◌, refl, sym, ap, ◌∙◌}
use mathlib.Core.List.{List}
use mathlib.Core.Bool.{Bool, true, false}
use Prim.Native.Nat.{ℕ, zero, suc, ◌+◌, ◌-◌, ◌^◌, ◌≤◌, ◌<◌}
use native.Mathlib.Numerals.{add-one}
use native.Mathlib.Omega.{arith}
use native.Mathlib.Decide.{dec_lt}
use lib.Arith.{digits_mod, digits_div}
use lib.ListN.{length, get_or, set, drop, length-set}
use lib.Seq.{drop-cons, get_or-set_same, get_or-set_other}
use lib.Dec.{ltb}
use borrow.Author.Tests.{lt-ltb, le-ltb, ltb-true, ltb-false}
use Rattle.numbers.specs.Tests.{pick}
use Rattle.numbers.specs.Bits.{bits_of}
use Rattle.tape.specs.declared.Cursor.{Cursor}
use Rattle.tape.specs.Tape.{ended, ran, taken, passed, low_bits, draw_at}
use Rattle.tape.proofs.DrawLaws.{draw_end, draw_more, draw_hit, draw_skip}
use Rattle.draws.specs.Plan.{skip_from}
use Rattle.draws.specs.Anew.{high_bits, with_low, Same}

-- the words that a draw below M from c read, one by one: r is what it gave, q the place that it handed on
pub data Drawn (M : ℕ) (tape : List ℕ) : Cursor → ℕ → Cursor → Type 0 where
  hit : {c : Cursor} {r : ℕ} → c.at < length tape → low_bits M (get_or tape c.at 0) ≡ r → r < M → Drawn M tape c r (taken c)
  skip : {c : Cursor} {r : ℕ} {q : Cursor} → c.at < length tape → M ≤ low_bits M (get_or tape c.at 0) → Drawn M tape (passed c) r q → Drawn M tape c r q

pub drawn_runs : {M : ℕ} {tape : List ℕ} {c : Cursor} {r : ℕ} {q : Cursor} → Drawn M tape c r q → draw_at tape c M ≡ ran r q
drawn_runs {M} {tape} (hit {c = c} {r = r} h e l) = draw_hit tape c M h r e l
drawn_runs {M} {tape} (skip {c = c} h l d) = draw_skip tape c M h _ refl l ∙ drawn_runs d

along : (M : ℕ) (tape : List ℕ) (f : ℕ) (c : Cursor) (r : ℕ) (q : Cursor) → length tape ≤ c.at + f → draw_at tape c M ≡ ran r q → Drawn M tape c r q
along M tape zero c r q h e = absurd (let n : draw_at tape c M ≡ ended = draw_end tape c M (omega arith) in let z : ◌≡◌ {A = ℕ} 0 1 = cc in omega arith)
along M tape (suc f) c r q h e = go (ltb v M) refl (λ k. along M tape f (passed c) r q (omega arith) k)
  where
    v : ℕ
    v = low_bits M (get_or tape c.at 0)

    short : (n : length tape ≤ c.at) → ⊥
    short n = let x : draw_at tape c M ≡ ended = draw_end tape c M n in let z : ◌≡◌ {A = ℕ} 0 1 = cc in omega arith

    fits : c.at < length tape
    fits = elim (dec_lt c.at (length tape)) [ yes l ↦ l | no n ↦ absurd (short (omega arith)) ]

    more : pick (ltb v M) (ran v (taken c)) (draw_at tape (passed c) M) ≡ ran r q
    more = sym (draw_more tape c M fits) ∙ e

    go : (b : Bool) → ltb v M ≡ b → (draw_at tape (passed c) M ≡ ran r q → Drawn M tape (passed c) r q) → Drawn M tape c r q
    go true t ih =
        let f : ran v (taken c) ≡ ran r q = sym (ap (λ (b : Bool). pick b (ran v (taken c)) (draw_at tape (passed c) M)) t) ∙ more in
        let er : v ≡ r = cc in
        let eq : taken c ≡ q = cc in
        rw (← eq) (hit fits er (omega (arith, ltb-true v M t)))
    go false t ih =
        skip fits (ltb-false v M t)
        (ih (sym (ap (λ (b : Bool). pick b (ran v (taken c)) (draw_at tape (passed c) M)) t) ∙ more))

pub drawn : {M : ℕ} {tape : List ℕ} {c : Cursor} {r : ℕ} {q : Cursor} → draw_at tape c M ≡ ran r q → Drawn M tape c r q
drawn {M} {tape} {c} {r} {q} e = along M tape (length tape) c r q (omega arith) e

-- a draw is below its modulus
pub drawn_below : {M : ℕ} {tape : List ℕ} {c : Cursor} {r : ℕ} {q : Cursor} → Drawn M tape c r q → r < M
drawn_below (hit h e l) = l
drawn_below (skip h l d) = drawn_below d

-- it reads at least one word, and none past the end
pub drawn_moves : {M : ℕ} {tape : List ℕ} {c : Cursor} {r : ℕ} {q : Cursor} → Drawn M tape c r q → (c.at < q.at) × (q.at ≤ length tape)
drawn_moves (hit h e l) = (omega arith, omega arith)
drawn_moves (skip h l d) = let (a, b) = drawn_moves d in (omega arith, b)

-- the word before the place that it hands on gave it
pub drawn_gave : {M : ℕ} {tape : List ℕ} {c : Cursor} {r : ℕ} {q : Cursor} → Drawn M tape c r q → low_bits M (get_or tape (q.at - 1) 0) ≡ r
drawn_gave {M} {tape} (hit {c = c} h e l) = let w : c.at + 1 - 1 ≡ c.at = omega arith in rw w e
drawn_gave (skip h l d) = drawn_gave d

-- it takes one word more than it skips
pub drawn_skips : {M : ℕ} {tape : List ℕ} {c : Cursor} {r : ℕ} {q : Cursor} → Drawn M tape c r q → q.at ≡ c.at + 1 + skip_from M (drop c.at tape)
unfolding skip_from
drawn_skips {M} {tape} (hit {c = c} h e l) =
    let b : ltb (low_bits M (get_or tape c.at 0)) M ≡ true = lt-ltb (low_bits M (get_or tape c.at 0)) M (omega arith) in
    rw (drop-cons tape c.at 0 h, b) (omega arith)
drawn_skips {M} {tape} (skip {c = c} {q = q} h l d) =
    let b : ltb (low_bits M (get_or tape c.at 0)) M ≡ false = le-ltb (low_bits M (get_or tape c.at 0)) M l in
    let ih : q.at ≡ c.at + 1 + 1 + skip_from M (drop (c.at + 1) tape) = drawn_skips d in
    rw (drop-cons tape c.at 0 h, b) (omega (arith, ih, ap (λ (j : ℕ). skip_from M (drop j tape)) (add-one c.at)))

-- it reads the words from its place up to the place that it hands on, and no other
pub same_within : {s t : List ℕ} {a b : ℕ} (u v : ℕ) → a ≤ u → v ≤ b → Same s t a b → Same s t u v
same_within u v h l e = record { reaches = omega (arith, e.reaches); words = λ i x y. e.words i (omega arith) (omega arith) }

pub drawn_reads : {M : ℕ} {s t : List ℕ} {c : Cursor} {r : ℕ} {q : Cursor} → Drawn M s c r q → Same s t c.at q.at → Drawn M t c r q
drawn_reads {M} (hit {c = c} h e l) a =
    let w = a.words c.at (omega arith) (omega arith) in
    hit {c = c} (omega (arith, a.reaches)) (rw w at e) l
drawn_reads {M} (skip {c = c} {q = q} h l d) a =
    let o = drawn_moves d in
    let w = a.words c.at (omega arith) (omega arith) in
    skip {c = c} (omega (arith, a.reaches)) (rw w at l) (drawn_reads d (same_within (c.at + 1) q.at (omega arith) (omega arith) a))

-- ---- to set a draw anew

-- a word with new low bits: they are what was put there, and the others stay
pub with_low_lem : (M w r : ℕ) → r < 2 ^ bits_of M → low_bits M (with_low M w r) ≡ r
unfolding low_bits with_low
with_low_lem M w r h = digits_mod (high_bits M w) h

pub with_high : (M w r : ℕ) → r < 2 ^ bits_of M → high_bits M (with_low M w r) ≡ high_bits M w
unfolding high_bits with_low
with_high M w r h = digits_div (high_bits M w) h

-- the word before the place that a draw hands on gave it: with new low bits below M there, the draw gives those and hands on the same place
pub drawn_anew : {M : ℕ} {tape : List ℕ} {c : Cursor} {r : ℕ} {q : Cursor} → Drawn M tape c r q → (u : ℕ) → u < M → u < 2 ^ bits_of M →
    Drawn M (set tape (q.at - 1) (with_low M (get_or tape (q.at - 1) 0) u)) c u q
drawn_anew {M} {tape} (hit {c = c} h e l) u hu hb =
    let x : ℕ = with_low M (get_or tape (c.at + 1 - 1) 0) u in
    let w : c.at + 1 - 1 ≡ c.at = omega arith in
    let z : get_or (set tape (c.at + 1 - 1) x) c.at 0 ≡ x = ap (λ (j : ℕ). get_or (set tape j x) c.at 0) w ∙ get_or-set_same tape c.at x 0 h in
    hit {c = c} (omega (arith, length-set tape (c.at + 1 - 1) x)) (ap (low_bits M) z ∙ with_low_lem M (get_or tape (c.at + 1 - 1) 0) u hb) hu
drawn_anew {M} {tape} (skip {c = c} {q = q} h l d) u hu hb =
    let x : ℕ = with_low M (get_or tape (q.at - 1) 0) u in
    let o = drawn_moves d in
    let z : get_or (set tape (q.at - 1) x) c.at 0 ≡ get_or tape c.at 0 = get_or-set_other tape (q.at - 1) c.at x 0 (omega arith) in
    skip {c = c} (omega (arith, length-set tape (q.at - 1) x)) (rw z l) (drawn_anew d u hu hb)

-- what a draw gives is below its modulus
pub draw_below : (tape : List ℕ) (p : Cursor) {M r : ℕ} {c : Cursor} → ran r c ≡ draw_at tape p M → r < M
draw_below tape p e = drawn_below (drawn (sym e))
