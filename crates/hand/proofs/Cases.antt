-- The cases by hand, computed on the definitions.
use mathlib.Core.Path.{refl}
use lib.Count.{count_leading_zeros}
use Rattle.numbers.specs.Modulo.{add_mod, sub_mod, neg_mod, xor}
use Rattle.numbers.specs.Lists.{change, along, over}
use Rattle.numbers.specs.Bits.{bits_of, alpha, power_from}
use Rattle.numbers.specs.Centred.{centred}
use Rattle.params.specs.Sets.{set_of, known, params_of}
use Rattle.tape.specs.Tape.{low_bits, draw_from, draw_at}
use Rattle.draws.specs.Draws.{after, next, run, bind, turns, each}
use Rattle.draws.specs.Plan.{draw_all}
use Rattle.shares.specs.Sharing.{move, negated}
use Rattle.shares.specs.Refresh.{turn, refresh}
use Rattle.first.specs.First.{add_to_first, take_from_first}
use Rattle.halves.specs.Halving.{join, join_turn, shared_parity, less, move_parity, evened, halves, halving}
use Rattle.halves.specs.Shift.{shift}
use Rattle.halves.specs.ToBoolean.{with_bit, bits_from, to_boolean}
use Rattle.rules.specs.Psi.{psi, psis, z_of, added}
use Rattle.rules.specs.Rule.{rule}
use Rattle.rules.specs.ToArithmetic.{to_arithmetic}
use Rattle.halves.specs.Carries.{floors, raised, raised_shift, carries, without}
use Rattle.masks.specs.ToModulus.{to_modulus}
use Rattle.checks.specs.Checks.{inside, all_below, first_failing, checks_of, checks}
use Rattle.gate.specs.Told.{refusal, ran_told, check_number, told}
use Rattle.gate.specs.Gadget.{silent_steps, closed, tells}
use Rattle.gate.specs.Sampler.{samples}
use Rattle.masks.specs.Sampling.{lowered, coefficient}
use Rattle.demands.specs.Gadgets.{sampler, shift_range, shift_gadget, to_boolean_gadget, to_arithmetic_gadget}
use Rattle.parts.specs.Plain.{remainder, multiple, exception, high_of, low_of}
use Rattle.hand.specs.Cases.{Cases}

pub cases : Cases
unfolding count_leading_zeros add_mod sub_mod neg_mod xor bits_of change along over low_bits draw_from draw_at after next run bind turns each move turn refresh negated join join_turn shared_parity less move_parity evened halves halving shift with_bit bits_from to_boolean psi psis z_of added rule to_arithmetic inside all_below first_failing checks_of checks refusal ran_told silent_steps closed check_number told tells shift_range shift_gadget to_boolean_gadget to_arithmetic_gadget samples set_of known params_of draw_all floors raised raised_shift carries without to_modulus lowered coefficient alpha power_from sampler add_to_first take_from_first centred remainder multiple exception high_of low_of
cases = record { draw_skips = refl; draw_cuts = refl; psi_of = refl; shift_draws = refl; shift_skips = refl; shift_ends = refl; to_arithmetic_lem = refl; to_boolean_lem = refl; sampling = refl; decompose_half = refl; decompose_past_half = refl; decompose_last = refl; decompose_wraps = refl; decompose_before = refl }
