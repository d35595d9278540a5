-- Laws of the turns of a refresh that are left: what the loops of both refreshes go by.
use mathlib.Core.Path.{◌≡◌, refl, sym, ap, ◌∙◌}
use mathlib.Core.List.{List}
use Prim.Native.Nat.{ℕ, ◌+◌, ◌-◌, ◌≤◌, ◌<◌}
use native.Mathlib.Omega.{arith}
use native.Mathlib.Decide.{ℕ_discrete}
use lib.ListN.{length, get_or, set, take, length-set}
use lib.Seq.{length-take-le, get_or-take, set-get_or, set-set, set_comm, get_or-set_same, get_or-set_other}
use Rattle.numbers.specs.Lists.{Words, change}
use Rattle.numbers.proofs.WordsLaws.{words_set}
use Rattle.numbers.proofs.AlongLaws.{along_is}
use Rattle.tape.specs.declared.Cursor.{Cursor}
use Rattle.tape.specs.Tape.{Ran, ended, ran, draw_at}
use Rattle.draws.specs.Draws.{each, run}
use Rattle.draws.proofs.DrawnLaws.{draw_below}
use Rattle.draws.proofs.RunLaws.{run_draw, run_ended, run_done, each_done, each_more, each_ended}
use Rattle.shares.specs.Sharing.{Sharing, bound, plus, minus, move}
use Rattle.shares.specs.Refresh.{turn, refresh}
use Rattle.shares.specs.Arrays.{Held}
use Rattle.shares.proofs.SharingLaws.{group}
use Rattle.shares.proofs.MoveLaws.{move-take}
use Rattle.shares.proofs.ArraysLaws.{held_at, held-set}

-- at turn i of a refresh of n shares that began as x, with the last share in last-share: what is left to do gives the same as the whole
pub record Remaining (s : Sharing) (size n : ℕ) (tape : List ℕ) (x : Ran (List ℕ)) (i : ℕ) (words : List ℕ) (last-share : ℕ) (p : Cursor) : Type 0 where
  pub held : Held size n (bound s) words
  pub below : last-share < bound s
  pub same : run (each (turn s (n - 1)) i (n - 1) (take n (set words (n - 1) last-share))) tape p ≡ x

pub remaining_start : (s : Sharing) (size n : ℕ) (words tape : List ℕ) (p : Cursor) → Held size n (bound s) words →
    Remaining s size n tape (run (refresh s (take n words)) tape p) 0 words (get_or words (n - 1) 0) p
unfolding refresh
remaining_start s size n words tape p h =
    let e : length (take n words) ≡ n = length-take-le n words (omega (arith, h.most, h.all.size)) in
    record {
      held = h;
      below = held_at h (n - 1);
      same =
          ap (λ (l : List ℕ). run (each (turn s (n - 1)) 0 (n - 1) (take n l)) tape p) (set-get_or words (n - 1) 0)
          ∙ sym (ap (λ (k : ℕ). run (each (turn s (k - 1)) 0 (k - 1) (take n words)) tape p) e);
    }

module _ {s : Sharing} {size n : ℕ} {tape : List ℕ} {x : Ran (List ℕ)} {i : ℕ} {words : List ℕ} {last-share : ℕ} {p : Cursor} (a : Remaining s size n tape x i words last-share p) where
  -- no turn is left, and the last share is stored
  pub remaining_words : Words size (bound s) (set words (n - 1) last-share)
  remaining_words = (held-set a.held (n - 1) a.below).all

  pub remaining_none : n - 1 ≤ i → x ≡ ran (take n (set words (n - 1) last-share)) p
  remaining_none h = sym a.same ∙ each_done (turn s (n - 1)) i (n - 1) (take n (set words (n - 1) last-share)) tape p h

  module _ (h : i < n - 1) where
    -- the tape has ended
    pub remaining_ended : ended ≡ draw_at tape p (bound s) → x ≡ ended
    unfolding turn
    remaining_ended e =
        sym a.same ∙ each_ended (turn s (n - 1)) i (n - 1) (take n (set words (n - 1) last-share)) tape p h (run_ended (bound s) _ tape p (sym e))

    module _ {r : ℕ} {c : Cursor} (e : ran r c ≡ draw_at tape p (bound s)) where
      remaining_draw : r < bound s
      remaining_draw = draw_below tape p e

      -- a turn with the last share in a local
      moved : {v w : ℕ} → v ≡ plus s (get_or words i 0) r → w ≡ minus s last-share r → set (set words i v) (n - 1) w ≡ move s (n - 1) i r (set words (n - 1) last-share)
      unfolding move change
      moved {v} {w} f o =
          let last : ℕ = n - 1 in
          let l : last < length (set words i v) = omega (arith, length-set words i v, a.held.all.size, a.held.most) in
          let g : plus s (get_or (set words last last-share) i 0) r ≡ v = ap (λ y. plus s y r) (get_or-set_other words last i last-share 0 (omega arith)) ∙ sym f in
          let t : set (set words last last-share) i v ≡ set (set words i v) last last-share = set_comm words last i last-share v (omega arith) in
          sym (ap (λ y. set (set (set words last last-share) i y) last (minus s (get_or (set (set words last last-share) i y) last 0) r)) g
          ∙ ap (λ (y : List ℕ). set y last (minus s (get_or y last 0) r)) t
          ∙ ap (λ y. set (set (set words i v) last last-share) last (minus s y r)) (get_or-set_same (set words i v) last last-share 0 l)
          ∙ set-set (set words i v) last last-share (minus s last-share r) ∙ ap (set (set words i v) last) (sym o))

      -- r added to word i and taken from the last share
      pub remaining_more : {v w : ℕ} → v ≡ plus s (get_or words i 0) r → w ≡ minus s last-share r → Remaining s size n tape x (i + 1) (set words i v) w c
      unfolding turn
      remaining_more {v} {w} f o =
          let g = group s (omega (arith, a.held.two)) in
          let y : List ℕ = set (set words i v) (n - 1) w in
          record {
            held = held-set a.held i (rw f (g.add_below (get_or words i 0) r (held_at a.held i) remaining_draw));
            below = rw o (g.sub_below last-share r a.below remaining_draw);
            same =
                sym (each_more (turn s (n - 1)) i (n - 1) (take n (set words (n - 1) last-share)) tape p h (take n y) c
                (run_draw (bound s) _ tape p r c (sym e) ∙ run_done _ tape c
                ∙ ap (λ (l : List ℕ). ran l c) (sym (ap (take n) (moved f o) ∙ move-take s (n - 1) i r (set words (n - 1) last-share) n (omega arith) (omega arith)))))
                ∙ a.same;
          }

-- the same where the refresh reads xs and writes ws: vs is what it would have made of xs in place
pub record Writing (s : Sharing) (size n : ℕ) (xs tape : List ℕ) (x : Ran (List ℕ)) (i : ℕ) (ws : List ℕ) (last-share : ℕ) (p : Cursor) : Type 0 where
  pub vs : List ℕ
  pub left : Remaining s size n tape x i vs last-share p
  pub all : Words size (bound s) ws
  pub most : i ≤ n - 1
  pub written : (j : ℕ) → j < i → get_or ws j 0 ≡ get_or vs j 0
  pub since : (j : ℕ) → i ≤ j → get_or vs j 0 ≡ get_or xs j 0

pub writing_start : (s : Sharing) (size n : ℕ) (xs zs tape : List ℕ) (p : Cursor) → Held size n (bound s) xs → Words size (bound s) zs →
    Writing s size n xs tape (run (refresh s (take n xs)) tape p) 0 zs (get_or xs (n - 1) 0) p
writing_start s size n xs zs tape p h w =
    record { vs = xs; left = remaining_start s size n xs tape p h; all = w; most = omega arith; written = λ j k. absurd (omega arith); since = λ j k. refl }

module _ {s : Sharing} {size n : ℕ} {xs tape : List ℕ} {x : Ran (List ℕ)} {i : ℕ} {ws : List ℕ} {last-share : ℕ} {p : Cursor} (a : Writing s size n xs tape x i ws last-share p) where
  room : n ≤ size
  room = a.left.held.most

  least : 2 ≤ n
  least = a.left.held.least

  pub writing_words : Words size (bound s) (set ws (n - 1) last-share)
  writing_words = words_set a.all (n - 1) a.left.below

  -- at the end the first n words are the same
  pub writing_none : n - 1 ≤ i → x ≡ ran (take n (set ws (n - 1) last-share)) p
  writing_none h = remaining_none a.left h ∙ sym (ap (λ (l : List ℕ). ran l p) (along_is (λ j y. y) (take n (set a.vs (n - 1) last-share)) (take n (set ws (n - 1) last-share)) (mine ∙ sym other) (λ j k. at j (omega (arith, other)) (ℕ_discrete j (n - 1)))
      ∙ sym (along_is (λ j y. y) (take n (set a.vs (n - 1) last-share)) (take n (set a.vs (n - 1) last-share)) refl (λ j k. refl))))
    where
      mine : length (take n (set ws (n - 1) last-share)) ≡ n
      mine = length-take-le n (set ws (n - 1) last-share) (omega (arith, length-set ws (n - 1) last-share, a.all.size, room))

      other : length (take n (set a.vs (n - 1) last-share)) ≡ n
      other = length-take-le n (set a.vs (n - 1) last-share) (omega (arith, length-set a.vs (n - 1) last-share, a.left.held.all.size, room))

      at : (j : ℕ) → j < n → Dec (j ≡ n - 1) → get_or (take n (set ws (n - 1) last-share)) j 0 ≡ get_or (take n (set a.vs (n - 1) last-share)) j 0
      at j k (yes e) =
          get_or-take n (set ws (n - 1) last-share) j 0 k
          ∙ rw e (get_or-set_same ws (n - 1) last-share 0 (omega (arith, a.all.size, room, least)) ∙ sym (get_or-set_same a.vs (n - 1) last-share 0 (omega (arith, a.left.held.all.size, room, least))))
          ∙ sym (get_or-take n (set a.vs (n - 1) last-share) j 0 k)
      at j k (no e) =
          get_or-take n (set ws (n - 1) last-share) j 0 k ∙ get_or-set_other ws (n - 1) j last-share 0 e ∙ a.written j (omega (arith, e))
          ∙ sym (get_or-set_other a.vs (n - 1) j last-share 0 e) ∙ sym (get_or-take n (set a.vs (n - 1) last-share) j 0 k)

  module _ (h : i < n - 1) {r : ℕ} {c : Cursor} (e : ran r c ≡ draw_at tape p (bound s)) where
    pub writing_more : {v w : ℕ} → v ≡ plus s (get_or xs i 0) r → w ≡ minus s last-share r → Writing s size n xs tape x (i + 1) (set ws i v) w c
    writing_more {v} {w} f o =
        record {
          vs = set a.vs i v;
          left = more;
          all = words_set a.all i (rw (sym placed) (held_at more.held i));
          most = omega arith;
          written = λ j k. go j k (ℕ_discrete j i);
          since = λ j k. get_or-set_other a.vs i j v 0 (omega arith) ∙ a.since j (omega arith);
        }
      where
        more : Remaining s size n tape x (i + 1) (set a.vs i v) w c
        more = remaining_more a.left h e (f ∙ ap (λ y. plus s y r) (sym (a.since i (omega arith)))) o

        placed : get_or (set a.vs i v) i 0 ≡ v
        placed = get_or-set_same a.vs i v 0 (omega (arith, a.left.held.all.size, room))

        go : (j : ℕ) → j < i + 1 → Dec (j ≡ i) → get_or (set ws i v) j 0 ≡ get_or (set a.vs i v) j 0
        go j k (yes g) = rw g (get_or-set_same ws i v 0 (omega (arith, a.all.size, room)) ∙ sym placed)
        go j k (no g) = get_or-set_other ws i j v 0 g ∙ a.written j (omega (arith, g)) ∙ sym (get_or-set_other a.vs i j v 0 g)
