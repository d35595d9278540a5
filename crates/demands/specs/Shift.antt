-- What is claimed of the shift and of arithmetic to Boolean (document 01, "Steps" and "What a caller gets back").
use Rattle.std.specs.Prelude.{◌≡◌, [], ℕ, ◌/◌, ◌%◌, ◌^◌, ◌≤◌}
use Rattle.halves.specs.Shift.{shift_plan}
use Rattle.halves.specs.ToBoolean.{to_boolean_plan}
use Rattle.demands.specs.Gadgets.{shift_gadget, to_boolean_gadget}
use Rattle.demands.specs.Claim.{Claim, keeping}

-- from modulo M to modulo M/2^t: the value becomes floor(x / 2^t)
abbrev pub shift_claim : ℕ → ℕ → Claim
shift_claim M t =
    record {
      gadget = shift_gadget M t;
      InRange = (M ≤ 4294967295) × ((1 ≤ t) × (t ≤ 31)) × (M % 2 ^ t ≡ 0) × (2 ≤ M / 2 ^ t);
      draws = λ n. shift_plan (M / 2 ^ t) t n;
      fields = 0;
      opens = λ x. [];
      Plain = λ x y. y ≡ x / 2 ^ t;
    }

-- from a sum modulo 2^k to an exclusive or of width k: the value is kept
abbrev pub to_boolean_claim : ℕ → Claim
to_boolean_claim k = keeping (to_boolean_gadget k) ((1 ≤ k) × (k ≤ 31)) (λ n. to_boolean_plan k n)
