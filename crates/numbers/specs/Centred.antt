-- Residues as signed numbers: from −⌈M/2⌉ + 1 to ⌊M/2⌋, as FIPS 204 has mod±. For q, which is odd, a residue above (q−1)/2 means itself less q
-- (document 01, "Steps").
use Rattle.std.specs.Prelude.{ℕ, suc, ◌/◌, ◌%◌, leb, ℤ, pos, negsuc, ◌-ℤ◌}
use Rattle.numbers.specs.Tests.{pick}
use Rattle.numbers.specs.Modulo.{neg_mod}

unfoldable pub centred : ℕ → ℕ → ℤ
centred M v = pick (leb v (M / 2)) (pos v) (pos v -ℤ pos M)

-- and back: the residue of a signed number. (negsuc v is −v − 1.)
unfoldable pub residue : ℕ → ℤ → ℕ
residue M (pos v) = v % M
residue M (negsuc v) = neg_mod M (suc v)
