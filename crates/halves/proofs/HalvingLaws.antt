-- Laws of one halving in an array: its steps on the first n words, and its run.
use mathlib.Core.Path.{◌≡◌, sym, ap, ◌∙◌}
use mathlib.Core.List.{List}
use Prim.Native.Nat.{ℕ, ◌*◌, ◌<◌}
use native.Mathlib.Omega.{arith}
use lib.ListN.{get_or, take}
use Rattle.numbers.specs.Lists.{Words}
use Rattle.numbers.proofs.GroupLaws.{sums}
use Rattle.numbers.proofs.AlongLaws.{words_along}
use Rattle.tape.specs.declared.Cursor.{Cursor}
use Rattle.tape.specs.Tape.{ended, ran}
use Rattle.draws.specs.Draws.{run}
use Rattle.draws.proofs.RunLaws.{run_done, bind_ran, bind_ended}
use Rattle.halves.specs.Halving.{shared_parity, less, evened, halves, halving}

pub less_words : {n M : ℕ} {ps xs : List ℕ} → 0 < M → Words n M ps → Words n M xs → Words n M (less M ps xs)
unfolding less
less_words {ps = ps} h v w = words_along _ w (λ i x l k. (sums _ h).sub_below x (get_or ps i 0) k (v.below i l))

pub halves_words : {n m : ℕ} {xs : List ℕ} → Words n (2 * m) xs → Words n m (halves xs)
unfolding halves
halves_words w = words_along _ w (λ i x l k. omega arith)

module _ (m n : ℕ) (ws tape : List ℕ) (p : Cursor) where
  -- the steps after the shared parity, which make no draws
  pub halving_ran : (ps rs : List ℕ) {c : Cursor} → run (shared_parity (2 * m) (take n ws)) tape p ≡ ran (take n ps) c →
      take n rs ≡ halves (evened (2 * m) (less (2 * m) (take n ps) (take n ws))) → run (halving m (take n ws)) tape p ≡ ran (take n rs) c
  unfolding halving
  halving_ran ps rs {c} e f =
      bind_ran (shared_parity (2 * m) (take n ws)) _ tape p (take n ps) c e ∙ run_done _ tape c ∙ ap (λ (l : List ℕ). ran l c) (sym f)

  pub halving_ended : run (shared_parity (2 * m) (take n ws)) tape p ≡ ended → run (halving m (take n ws)) tape p ≡ ended
  unfolding halving
  halving_ended e = bind_ended (shared_parity (2 * m) (take n ws)) _ tape p e
