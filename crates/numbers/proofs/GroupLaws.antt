-- Words below M that can be added and taken away, and the two instances: sums modulo M, and exclusive or on k bits.
use mathlib.Core.Path.{◌≡◌, sym, ap, ◌∙◌}
use Prim.Native.Nat.{ℕ, ◌+◌, ◌-◌, ◌%◌, ◌^◌, ◌<◌}
use native.Mathlib.Nat.{mod-lt, mod-eq_of_lt, mod-add-mod, add-mod-mod, add_comm, add_assoc, add-zero}
use native.Mathlib.Omega.{arith}
use lib.Pow.{pow_pos}
use Rattle.numbers.specs.Modulo.{add_mod, sub_mod, xor}
use Rattle.numbers.proofs.Cong.{Cong, cong_by, cong_add, cong_refl, cong_mod, ◌⨾◌, cong_small, cong_cancel, cong_sym}
use Rattle.numbers.proofs.XorLaws as Xor

pub record Group (M : ℕ) (add sub : ℕ → ℕ → ℕ) : Type 0 where
  pub positive : 0 < M
  pub add_below : (a b : ℕ) → a < M → b < M → add a b < M
  pub sub_below : (a b : ℕ) → a < M → b < M → sub a b < M
  pub comm : (a b : ℕ) → add a b ≡ add b a
  pub assoc : (a b c : ℕ) → add (add a b) c ≡ add a (add b c)
  pub zero : (a : ℕ) → a < M → add a 0 ≡ a
  pub sub-add : (a b : ℕ) → a < M → b < M → add (sub a b) b ≡ a

-- a difference modulo M is below M, whatever the numbers
pub sub_small : (M a b : ℕ) → 0 < M → sub_mod M a b < M
unfolding sub_mod
sub_small M a b h = mod-lt (a + (M - b % M)) h

-- with what was taken put back it is the number
pub sub_back : (M a b : ℕ) → 0 < M → Cong M (sub_mod M a b + b) a
unfolding sub_mod
sub_back M a b h =
    let l : b % M < M = mod-lt b h in
    cong_add cong_mod cong_refl ⨾ (cong_add (cong_refl {a = a + (M - b % M)}) (record { eq = sym (cong_mod {a = b}).eq }) ⨾ cong_by 0 1 (omega arith))

-- and no other number below M has that
pub sub_only : {M r a : ℕ} (b : ℕ) → r < M → Cong M (r + b) a → r ≡ sub_mod M a b
unfolding sub_mod
sub_only {M} {r} {a} b h c = cong_small h (mod-lt _ (omega arith)) (cong_cancel b (c ⨾ cong_sym (sub_back M a b (omega arith))))

pub sums : (M : ℕ) → 0 < M → Group M (add_mod M) (sub_mod M)
unfolding add_mod sub_mod
sums M h =
    record {
      positive = h;
      add_below = λ a b p r. mod-lt (a + b) h;
      sub_below = λ a b p r. sub_small M a b h;
      comm = λ a b. rw (add_comm a b);
      assoc = λ a b c. rw (mod-add-mod, add-mod-mod, add_assoc);
      zero = λ a p. rw add-zero (mod-eq_of_lt p);
      sub-add = λ a b p r. (sub_back M a b h).eq ∙ mod-eq_of_lt p;
    }

pub xors : (k : ℕ) → Group (2 ^ k) xor xor
xors k =
    record {
      positive = pow_pos k;
      add_below = Xor.xor_below k;
      sub_below = Xor.xor_below k;
      comm = Xor.xor_comm;
      assoc = Xor.xor_assoc;
      zero = λ a p. Xor.xor_zero a;
      sub-add = λ a b p r. Xor.xor_assoc a b b ∙ ap (xor a) (Xor.xor_self b) ∙ Xor.xor_zero a;
    }

module _ {M : ℕ} {add sub : ℕ → ℕ → ℕ} (G : Group M add sub) where
  open G use {positive, add_below, sub_below, comm, assoc, zero, sub-add}

  -- the last two of three change places
  pub add_swap : (a b c : ℕ) → add (add a b) c ≡ add (add a c) b
  add_swap a b c = assoc a b c ∙ ap (add a) (comm b c) ∙ sym (assoc a c b)

  -- what is added on both sides goes
  pub add_cancel : (a b c : ℕ) → a < M → b < M → c < M → add a c ≡ add b c → a ≡ b
  add_cancel a b c ha hb hc e = sym (back a ha) ∙ ap (λ (x : ℕ). add x (sub 0 c)) e ∙ back b hb
    where
      back : (x : ℕ) → x < M → add (add x c) (sub 0 c) ≡ x
      back x hx = assoc x c (sub 0 c) ∙ ap (add x) (comm c (sub 0 c) ∙ sub-add 0 c positive hc) ∙ zero x hx

  pub add-sub : (a b : ℕ) → a < M → b < M → sub (add a b) b ≡ a
  add-sub a b ha hb = add_cancel (sub (add a b) b) a b (sub_below (add a b) b (add_below a b ha hb) hb) ha hb (sub-add (add a b) b (add_below a b ha hb) hb)

  -- exactly one number added to a gives c
  pub add_solves : (a c : ℕ) → a < M → c < M → add a (sub c a) ≡ c
  add_solves a c ha hc = comm a (sub c a) ∙ sub-add c a hc ha

  pub add_only : (a b c : ℕ) → a < M → b < M → add a b ≡ c → b ≡ sub c a
  add_only a b c ha hb e = sym (add-sub b a hb ha) ∙ ap (λ (x : ℕ). sub x a) (comm b a ∙ e)
