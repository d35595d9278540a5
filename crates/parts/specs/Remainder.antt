-- What FIPS 204 says of r0: it lies in −γ2 < r0 ≤ γ2, and r − r0 is a multiple of 2γ2, which is not negative.
use Rattle.std.specs.Prelude.{◌≡◌, ℕ, ◌*◌, pos, neg_ℤ, ◌-ℤ◌, ◌≤ℤ◌, ◌<ℤ◌}
use Rattle.parts.specs.Plain.{remainder, multiple}

pub record Remainder (γ2 r : ℕ) : Type 0 where
  pub least : neg_ℤ (pos γ2) <ℤ remainder γ2 r
  pub most : remainder γ2 r ≤ℤ pos γ2
  pub exact : pos r -ℤ remainder γ2 r ≡ pos (multiple γ2 r)
  pub times : ℕ
  pub whole : multiple γ2 r ≡ 2 * γ2 * times
