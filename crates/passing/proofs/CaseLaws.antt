-- The cases of the self test, computed on the definitions.
use mathlib.Core.Path.{◌≡◌, refl}
use mathlib.Core.Bool.{true}
use mathlib.Core.List.{List, [], ◌∷◌}
use Prim.Native.Nat.{ℕ, ◌+◌}
use lib.Count.{count_leading_zeros}
use lib.ListN.{replicate}
use Rattle.numbers.specs.Modulo.{q, add_mod, sub_mod, neg_mod, xor}
use Rattle.numbers.specs.Tests.{both}
use Rattle.numbers.specs.Bits.{bits_of, power_from, alpha}
use Rattle.numbers.specs.Lists.{fold, sum, change, along, over}
use Rattle.params.specs.Sets.{set_of, of_kind, known, params_of}
use Rattle.tape.specs.Tape.{low_bits, draw_from, draw_at, start}
use Rattle.draws.specs.Draws.{after, next, run, bind, turns, each}
use Rattle.draws.specs.Plan.{draw_all}
use Rattle.shares.specs.Sharing.{arithmetic, negated, move}
use Rattle.shares.specs.Refresh.{turn, refresh}
use Rattle.first.specs.First.{add_to_first, take_from_first}
use Rattle.halves.specs.Halving.{join, join_turn, shared_parity, less, move_parity, evened, halves, halving}
use Rattle.halves.specs.Shift.{shift}
use Rattle.halves.specs.ToBoolean.{with_bit, bits_from, to_boolean}
use Rattle.rules.specs.Psi.{psi, psis, z_of, added}
use Rattle.rules.specs.Rule.{rule}
use Rattle.rules.specs.ToArithmetic.{to_arithmetic}
use Rattle.halves.specs.Carries.{floors, raised, raised_shift, carries, without}
use Rattle.masks.specs.ToModulus.{to_modulus}
use Rattle.checks.specs.Checks.{inside, all_below, first_failing, checks_of, checks, leave_out}
use Rattle.gate.specs.Told.{Told, refusal, ran_told, check_number, told}
use Rattle.gate.specs.Gadget.{silent_steps, closed, tells}
use Rattle.gate.specs.Sampler.{samples}
use Rattle.gate.specs.Judge.{judge_checks, judges}
use Rattle.masks.specs.Sampling.{lowered, coefficient}
use Rattle.demands.specs.Gadgets.{sampler, refresh_gadget, shift_range, shift_gadget, to_boolean_gadget, kind_range, decompose_gadget, verdict_gadget}
use Rattle.sizes.specs.Widening.{widen}
use Rattle.parts.specs.Decompose.{high_shares, high_part, low_shares, decompose}
use Rattle.sizes.specs.Product.{begun, crossed, pair, row, product}
use Rattle.sizes.specs.ZeroTest.{scaled, scale_turn, zero_test}
use Rattle.sizes.specs.Sides.{side, sides_product}
use Rattle.sizes.specs.Verdict.{tested, verdict_of, verdict}
use Rattle.passing.specs.Held.{sevens, small_tape, held, shares_shown, steps_held, parts_shown, verdict_shown}

abbrev shown : (wanted : List ℕ) → Told → Type 0
shown wanted t = held wanted (shares_shown t) ≡ true

abbrev converted : (wanted shares tape : List ℕ) → Type 0
converted wanted shares tape = steps_held wanted (run (bind (to_arithmetic 4 shares) (refresh (arithmetic 16))) tape start) ≡ true

abbrev parted : (second high low : ℕ) → Type 0
parted second high low = held (0 ∷ 26 ∷ high ∷ low ∷ []) (parts_shown (tells (decompose_gadget 44) (5000000 ∷ second ∷ []) small_tape sevens)) ≡ true

abbrev judged : (set kind second : ℕ) (wanted : List ℕ) → Type 0
judged set kind second wanted = held wanted (verdict_shown (judges (verdict_gadget set kind) (5000000 ∷ second ∷ []) small_tape)) ≡ true

abbrev bounded : (set kind second used opened : ℕ) → Type 0
bounded set kind second used opened =
    both (held (0 ∷ used ∷ 1 ∷ opened ∷ []) (verdict_shown (judges (verdict_gadget set kind) (5000000 ∷ second ∷ []) small_tape)))
    (held (0 ∷ used ∷ 0 ∷ 0 ∷ []) (verdict_shown (judges (verdict_gadget set kind) (5000000 ∷ (second + 1) ∷ []) small_tape))) ≡ true

pub record Passing : Type 0 where
  pub draw_skips : shown (0 ∷ 2 ∷ 8380416 ∷ 1 ∷ []) (tells (refresh_gadget q) (0 ∷ 0 ∷ []) (8380417 ∷ 8380416 ∷ []) sevens)
  pub draw_cuts : shown (0 ∷ 1 ∷ 0 ∷ 0 ∷ []) (tells (refresh_gadget q) (0 ∷ 0 ∷ []) (8388608 ∷ []) sevens)
  pub psi_of : converted (0 ∷ 3 ∷ 7 ∷ 15 ∷ []) (5 ∷ 3 ∷ []) (0 ∷ 0 ∷ 4 ∷ [])
  pub shift_draws : shown (0 ∷ 2 ∷ 0 ∷ 2 ∷ []) (tells (shift_gadget 10 1) (7 ∷ 8 ∷ []) (3 ∷ 4 ∷ []) sevens)
  pub shift_skips : shown (0 ∷ 4 ∷ 0 ∷ 2 ∷ []) (tells (shift_gadget 10 1) (7 ∷ 8 ∷ []) (12 ∷ 3 ∷ 6 ∷ 4 ∷ []) sevens)
  pub shift_ends : shown (5 ∷ 0 ∷ 7 ∷ 7 ∷ []) (tells (shift_gadget 10 1) (7 ∷ 8 ∷ []) (12 ∷ 3 ∷ 6 ∷ []) sevens)
  pub to_arithmetic_lem : converted (0 ∷ 3 ∷ 9 ∷ 12 ∷ []) (6 ∷ 3 ∷ []) (1 ∷ 2 ∷ 7 ∷ [])
  pub to_boolean_lem : shown (0 ∷ 3 ∷ 7 ∷ 2 ∷ []) (tells (to_boolean_gadget 3) (6 ∷ 7 ∷ []) (0 ∷ 0 ∷ 3 ∷ []) sevens)
  pub offset44 : shown (0 ∷ 6 ∷ 8249346 ∷ 0 ∷ []) (samples (sampler 44) 2 (replicate 6 0) sevens)
  pub offset65 : shown (0 ∷ 6 ∷ 7864327 ∷ 8372226 ∷ []) (samples (sampler 65) 2 (5 ∷ 3 ∷ 1 ∷ 2 ∷ 7 ∷ 4 ∷ []) sevens)
  pub offset87 : shown (0 ∷ 6 ∷ 5767179 ∷ 2088956 ∷ []) (samples (sampler 87) 2 (6 ∷ 3 ∷ 2 ∷ 1 ∷ 5 ∷ 9 ∷ []) sevens)
  pub half : parted 3475649 0 95232
  pub past_half : parted 3475650 1 8285186
  pub last : parted 3380416 0 8380416
  pub wraps : parted 3285185 0 8285185
  pub before : parted 3285184 43 95232
  pub small : judged 44 1 3511410 (0 ∷ 24 ∷ 1 ∷ 2509824 ∷ [])
  pub minus_small : judged 44 1 3249424 (0 ∷ 24 ∷ 1 ∷ 2509824 ∷ [])
  pub large : judged 44 1 3511411 (0 ∷ 24 ∷ 0 ∷ 0 ∷ [])
  pub minus_large : judged 44 1 3249423 (0 ∷ 24 ∷ 0 ∷ 0 ∷ [])
  pub reach : judged 44 1 3511567 (0 ∷ 24 ∷ 0 ∷ 0 ∷ [])
  pub eight : held (0 ∷ 1079 ∷ 1 ∷ 1024 ∷ []) (verdict_shown (judges (verdict_gadget 44 1) (130993 ∷ replicate 7 0) (replicate 1079 0))) ≡ true
  pub one_share : shown (1 ∷ 0 ∷ 7 ∷ 7 ∷ []) (tells (refresh_gadget q) (0 ∷ []) (0 ∷ 0 ∷ []) sevens)
  pub nine_shares : shown (1 ∷ 0 ∷ 7 ∷ 7 ∷ []) (tells (refresh_gadget q) (replicate 9 0) (0 ∷ 0 ∷ []) sevens)
  pub share_q : shown (4 ∷ 0 ∷ 7 ∷ 7 ∷ []) (tells (refresh_gadget q) (0 ∷ q ∷ []) (0 ∷ 0 ∷ []) sevens)
  pub bound44_2 : bounded 44 2 3475570 22 1854289
  pub bound65_1 : bounded 65 1 3904508 26 4902912
  pub bound65_2 : bounded 65 2 3642108 24 5012295
  pub bound87_1 : bounded 87 1 3904584 24 1658879
  pub bound87_2 : bounded 87 2 3642184 22 5101477

pub passing : Passing
unfolding count_leading_zeros add_mod sub_mod neg_mod xor bits_of power_from alpha fold sum change along over set_of of_kind known params_of low_bits draw_from draw_at after next run bind turns each draw_all add_to_first take_from_first negated move turn refresh join join_turn shared_parity less move_parity evened halves halving shift with_bit bits_from to_boolean psi psis z_of added rule to_arithmetic floors raised raised_shift carries without to_modulus inside all_below first_failing checks_of checks leave_out refusal ran_told check_number told silent_steps closed tells samples judge_checks judges lowered coefficient sampler widen high_shares high_part low_shares decompose begun crossed pair row product side sides_product scaled scale_turn zero_test tested verdict_of verdict refresh_gadget shift_range shift_gadget to_boolean_gadget kind_range decompose_gadget verdict_gadget held shares_shown steps_held parts_shown verdict_shown
passing = record { draw_skips = refl; draw_cuts = refl; psi_of = refl; shift_draws = refl; shift_skips = refl; shift_ends = refl; to_arithmetic_lem = refl; to_boolean_lem = refl; offset44 = refl; offset65 = refl; offset87 = refl; half = refl; past_half = refl; last = refl; wraps = refl; before = refl; small = refl; minus_small = refl; large = refl; minus_large = refl; reach = refl; eight = refl; one_share = refl; nine_shares = refl; share_q = refl; bound44_2 = refl; bound65_1 = refl; bound65_2 = refl; bound87_1 = refl; bound87_2 = refl }
