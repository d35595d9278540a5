-- What is claimed of both refreshes (document 01, "Steps" and "What a caller gets back"): they are the closing refresh alone, and keep the value.
use Rattle.std.specs.Prelude.{[], ℕ, ◌≤◌}
use Rattle.demands.specs.Gadgets.{refresh_gadget, boolean_gadget}
use Rattle.demands.specs.Claim.{Claim, keeping}

-- no draws before the closing refresh
abbrev pub refresh_claim : ℕ → Claim
refresh_claim M = keeping (refresh_gadget M) ((2 ≤ M) × (M ≤ 4294967295)) (λ n. [])

abbrev pub boolean_claim : ℕ → Claim
boolean_claim k = keeping (boolean_gadget k) ((1 ≤ k) × (k ≤ 31)) (λ n. [])
