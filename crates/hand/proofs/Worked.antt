-- The calls worked by hand, computed on the definitions.
use mathlib.Core.Path.{refl}
use lib.Count.{count_leading_zeros}
use Rattle.numbers.specs.Modulo.{add_mod, sub_mod, neg_mod, xor}
use Rattle.numbers.specs.Bits.{bits_of, power_from, alpha}
use Rattle.numbers.specs.Lists.{fold, sum, change, along, over}
use Rattle.params.specs.Sets.{set_of, of_kind, known, params_of}
use Rattle.tape.specs.Tape.{low_bits, draw_from, draw_at}
use Rattle.draws.specs.Draws.{after, next, run, bind, turns, each}
use Rattle.draws.specs.Plan.{draw_all}
use Rattle.shares.specs.Sharing.{move, negated}
use Rattle.shares.specs.Refresh.{turn, refresh}
use Rattle.first.specs.First.{add_to_first, take_from_first}
use Rattle.halves.specs.Halving.{join, join_turn, shared_parity, less, move_parity, evened, halves, halving}
use Rattle.halves.specs.Shift.{shift}
use Rattle.halves.specs.ToBoolean.{with_bit, bits_from, to_boolean}
use Rattle.rules.specs.Psi.{psi, psis, z_of, added}
use Rattle.rules.specs.Rule.{rule}
use Rattle.rules.specs.ToArithmetic.{to_arithmetic}
use Rattle.halves.specs.Carries.{floors, raised, raised_shift, carries, without}
use Rattle.masks.specs.ToModulus.{to_modulus}
use Rattle.checks.specs.Checks.{inside, all_below, first_failing, checks_of, checks}
use Rattle.gate.specs.Told.{refusal, ran_told, check_number, told}
use Rattle.gate.specs.Gadget.{silent_steps, closed, tells}
use Rattle.gate.specs.Sampler.{samples}
use Rattle.masks.specs.Sampling.{lowered, coefficient}
use Rattle.masks.specs.Polynomial.{filled, row, polynomial}
use Rattle.demands.specs.Gadgets.{sampler, polynomial_sampler, kind_range, widen_gadget, decompose_gadget, shift_range, shift_gadget, to_boolean_gadget, to_arithmetic_gadget, to_mod_q_gadget, refresh_gadget, boolean_gadget}
use Rattle.sizes.specs.Widening.{widen}
use Rattle.parts.specs.Decompose.{high_shares, high_part, low_shares, decompose}
use Rattle.hand.specs.Worked.{Worked}

pub worked : Worked
unfolding count_leading_zeros add_mod sub_mod neg_mod xor bits_of change along over low_bits draw_from draw_at after next run bind turns each move turn refresh negated join join_turn shared_parity less move_parity evened halves halving shift with_bit bits_from to_boolean psi psis z_of added rule to_arithmetic floors raised raised_shift carries without to_modulus power_from alpha inside all_below first_failing checks_of checks refusal ran_told silent_steps closed check_number told tells shift_range shift_gadget to_boolean_gadget to_arithmetic_gadget to_mod_q_gadget refresh_gadget boolean_gadget samples set_of known params_of draw_all lowered coefficient filled row polynomial sampler polynomial_sampler add_to_first take_from_first of_kind widen high_shares high_part low_shares decompose kind_range widen_gadget decompose_gadget sum fold
worked = record { refreshed = refl; refreshed_boolean = refl; shifted = refl; made_boolean = refl; made_arithmetic = refl; made_mod_q = refl; short = refl; sampled = refl; unknown = refl; filled = refl; wiped = refl; kept = refl; widened = refl; no_kind = refl; decomposed = refl; hidden = refl }
