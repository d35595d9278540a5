-- What gadgets may ask of a parameter set: each holds of every value of its type (`kind_laws`, `set_laws`), and a gadget goes by these alone and by no set's numbers.
use Rattle.std.specs.Prelude.{◌≡◌, ◌+◌, ◌-◌, ◌*◌, ◌^◌, ◌≤◌, ◌<◌}
use Rattle.numbers.specs.Modulo.{q}
use Rattle.params.specs.declared.Bounds.{Bounds}
use Rattle.params.specs.declared.Params.{Params}

-- of the bounds of a kind: a ≤ b, b − a < 2^ρ, and 4b ≤ q; ρ is at least 1, since a draw is below 2 or more, and 2^ρ·q is a word
pub record KindLaws (bounds : Bounds) : Type 0 where
  pub order : bounds.a ≤ bounds.b
  pub past : bounds.b < bounds.a + 2 ^ bounds.rho
  pub quarter : 4 * bounds.b ≤ q
  pub least : 1 ≤ bounds.rho
  pub word : 2 ^ bounds.rho * q < 2 ^ 32

pub record Laws (p : Params) : Type 0 where
  -- the mask's offset γ1 − 1 is not zero
  pub offset : 1 < p.gamma1
  -- μ bits hold just the 2γ1 values of a mask
  pub mask : 2 ^ p.mu ≡ 2 * p.gamma1
  -- 2γ2·δ = q − 1
  pub parts : 2 * p.gamma2 * p.delta ≡ q - 1
  -- δ is at least 2, since a draw is below 2 or more, and at most 63, so that δ·2^26 is a word
  pub parts_least : 2 ≤ p.delta
  pub parts_most : p.delta ≤ 63
  -- kind 1: a = γ1 − β, b = γ1 + β
  pub bound1 : p.kind1.a + p.beta ≡ p.gamma1
  pub reach1 : p.kind1.b ≡ p.gamma1 + p.beta
  -- kind 2: a = γ2 − β, b = γ2
  pub bound2 : p.kind2.a + p.beta ≡ p.gamma2
  pub reach2 : p.kind2.b ≡ p.gamma2
  pub laws1 : KindLaws p.kind1
  pub laws2 : KindLaws p.kind2
