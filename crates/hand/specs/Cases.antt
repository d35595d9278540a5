-- The cases by hand that document 01 marks P ("Cases by hand"), as one table.
use Rattle.std.specs.Prelude.{◌≡◌, [], ◌∷◌, ℕ, ℤ, pos, neg_ℤ}
use Rattle.numbers.specs.Modulo.{q}
use Rattle.params.specs.Sets.{params_of}
use Rattle.tape.specs.Tape.{start, ran, draw_at}
use Rattle.rules.specs.Psi.{psi}
use Rattle.gate.specs.Told.{Told}
use Rattle.gate.specs.Gadget.{tells}
use Rattle.gate.specs.Sampler.{samples}
use Rattle.demands.specs.Gadgets.{sampler, shift_gadget, to_boolean_gadget, to_arithmetic_gadget}
use Rattle.parts.specs.Plain.{high_of, low_of}

-- a call that succeeds with two shares
abbrev shares : ℕ → ℕ → ℕ → Told
shares used x y = record { number = 0; others = []; used = used; out = x ∷ y ∷ [] }

-- FIPS 204's Decompose of a residue, for set 44: the high part and the low one
abbrev parts44 : ℕ → ℕ × ℤ
parts44 r = (high_of (params_of 44).gamma2 r, low_of (params_of 44).gamma2 r)

pub record Cases : Type 0 where
  pub draw_skips : draw_at (8380417 ∷ 8380416 ∷ []) start q ≡ ran 8380416 (record { at = 2 })
  pub draw_cuts : draw_at (8388608 ∷ []) start q ≡ ran 0 (record { at = 1 })
  pub psi_of : psi 4 5 3 ≡ 3
  pub shift_draws : tells (shift_gadget 10 1) (7 ∷ 8 ∷ []) (3 ∷ 4 ∷ []) (0 ∷ 0 ∷ []) ≡ shares 2 0 2
  pub shift_skips : tells (shift_gadget 10 1) (7 ∷ 8 ∷ []) (12 ∷ 3 ∷ 6 ∷ 4 ∷ []) (0 ∷ 0 ∷ []) ≡ shares 4 0 2
  pub shift_ends : (tells (shift_gadget 10 1) (7 ∷ 8 ∷ []) (12 ∷ 3 ∷ 6 ∷ []) (0 ∷ 0 ∷ [])).number ≡ 5
  pub to_arithmetic_lem : tells (to_arithmetic_gadget 4) (6 ∷ 3 ∷ []) (1 ∷ 2 ∷ 7 ∷ []) (0 ∷ 0 ∷ []) ≡ shares 3 9 12
  pub to_boolean_lem : tells (to_boolean_gadget 3) (6 ∷ 7 ∷ []) (0 ∷ 0 ∷ 3 ∷ []) (0 ∷ 0 ∷ []) ≡ shares 3 7 2
  pub sampling : samples (sampler 44) 2 (0 ∷ 0 ∷ 0 ∷ 0 ∷ 0 ∷ 0 ∷ []) (0 ∷ 0 ∷ []) ≡ shares 6 8249346 0
  pub decompose_half : parts44 95232 ≡ (0, pos 95232)
  pub decompose_past_half : parts44 95233 ≡ (1, neg_ℤ (pos 95231))
  pub decompose_last : parts44 8380416 ≡ (0, neg_ℤ (pos 1))
  pub decompose_wraps : parts44 8285185 ≡ (0, neg_ℤ (pos 95232))
  pub decompose_before : parts44 8285184 ≡ (43, pos 95232)
