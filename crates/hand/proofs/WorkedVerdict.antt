-- The calls of the verdict worked by hand, computed on the definitions.
use mathlib.Core.Path.{refl}
use lib.Count.{count_leading_zeros}
use Rattle.numbers.specs.Modulo.{add_mod, sub_mod, neg_mod}
use Rattle.numbers.specs.Bits.{bits_of, power_from, alpha}
use Rattle.numbers.specs.Lists.{fold, sum, change, along, over}
use Rattle.params.specs.Sets.{set_of, of_kind, known, params_of}
use Rattle.tape.specs.Tape.{low_bits, draw_from, draw_at}
use Rattle.draws.specs.Draws.{after, next, run, bind, turns, each}
use Rattle.draws.specs.Plan.{repeated}
use Rattle.shares.specs.Sharing.{negated, move}
use Rattle.shares.specs.Refresh.{turn, refresh, refresh_plan}
use Rattle.first.specs.First.{add_to_first, take_from_first}
use Rattle.halves.specs.Halving.{join, join_turn, shared_parity, less, move_parity, evened, halves, halving, halving_plan}
use Rattle.halves.specs.Shift.{shift, shift_plan}
use Rattle.halves.specs.Carries.{floors, raised, raised_shift, carries, without}
use Rattle.checks.specs.Checks.{inside, all_below, first_failing, checks_of, checks, leave_out}
use Rattle.gate.specs.Told.{refusal, ran_told, check_number, told}
use Rattle.gate.specs.Judge.{judge_checks, judges}
use Rattle.sizes.specs.Widening.{widen, widen_plan}
use Rattle.sizes.specs.Product.{begun, crossed, pair, row, product, product_plan}
use Rattle.sizes.specs.ZeroTest.{scaled, scale_turn, zero_test, scale_plan, scales_plan}
use Rattle.sizes.specs.Sides.{side, sides_product, sides_plan}
use Rattle.sizes.specs.Verdict.{tested, verdict_of, verdict, front_plan, verdict_plan}
use Rattle.demands.specs.Gadgets.{kind_range, verdict_gadget}
use Rattle.hand.specs.WorkedVerdict.{WorkedVerdict}

pub worked_verdict : WorkedVerdict
unfolding count_leading_zeros add_mod sub_mod neg_mod bits_of power_from alpha fold sum change along over set_of of_kind known params_of low_bits draw_from draw_at after next run bind turns each add_to_first take_from_first negated move turn refresh refresh_plan join join_turn shared_parity less move_parity evened halves halving halving_plan shift shift_plan floors raised raised_shift carries without inside all_below first_failing checks_of checks leave_out refusal ran_told check_number told judge_checks judges widen widen_plan begun crossed pair row product product_plan side sides_product scaled scale_turn zero_test tested verdict_of verdict sides_plan front_plan scale_plan scales_plan repeated verdict_plan kind_range verdict_gadget
worked_verdict = record { multiplied = refl; tested_shares = refl; judged_small = refl; judged_large = refl; judged_short = refl; beyond_rejected = refl; beyond_accepted = refl; verdict_draws_2 = refl; verdict_draws_8 = refl }
