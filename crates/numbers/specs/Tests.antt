-- Tests, and what goes by them.
use Rattle.std.specs.Prelude.{Bool, true, false}

abbrev pub both : Bool → Bool → Bool
both true b = b
both false b = false

-- one of two, by a test
abbrev pub pick : {A : Type 0} → Bool → A → A → A
pick true a b = a
pick false a b = b
