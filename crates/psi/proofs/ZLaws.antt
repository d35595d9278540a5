-- Z, read off the words that Ψ has been applied to.
use Rattle.std.proofs.Common.{◌≡◌, ◌∙◌, List, ℕ, ◌%◌, get_or, set}
use lib.Bits.{bit_xor}
use Rattle.numbers.specs.Modulo.{xor}
use Rattle.rules.specs.Psi.{psis, z_of}
use Rattle.rules.proofs.ListLaws.{z_odd, z_even}

module _ (k s x : ℕ) (us ws : List ℕ) (all : ws ≡ psis k x us) where
  pub z_of_odd : s % 2 ≡ 1 → set ws 0 (bit_xor (get_or ws 0 0) x) ≡ z_of k s x us
  unfolding xor
  z_of_odd e = z_odd k s x us e all

  pub z_of_even : (s % 2 ≡ 1 → ⊥) → ws ≡ z_of k s x us
  z_of_even e = all ∙ z_even k s x us e
