use Rattle.std.proofs.Common.{◌≡◌, sym, subst, ℕ, suc, ◌-◌, ◌^◌, length, get_or, take, drop, pow_pos, arith, rules}
use Rattle.numbers.specs.Lists.{Words}
use Rattle.numbers.proofs.WordsLaws.{words_at}
use Rattle.tape.specs.Tape.{ran}
use Rattle.draws.specs.Draws.{run}
use Rattle.rules.specs.Psi.{z_of}
use Rattle.rules.proofs.ListLaws.{z_words}
use Rattle.rules.specs.Rule as steps
use Rattle.rules.proofs.RuleLaws.{refresh_ended, u_ended, z_ended, rule_gave, same_shares}
use Rattle.rules.proofs.NineLaws.{three_asked, rule_three, rule_four, held_shorter, u_words, u_is, z_is, results_added}
use Rattle.convert.proofs.rule.+rule.Goals as goal
use Rattle.convert.proofs.rule.+rule.Goals.{After-refresh, After-u_of-u, After-z_of-z}

-- what the rule on U and on Z is, with one share fewer
fewer : (t : ℕ) (c : After-refresh t) → c.args.s - 2 ≡ suc (c.args.s - 1 - 2)
fewer t c = omega (arith, c.requires.1, c.if-s-eq3.false)

u_below : (t : ℕ) (c : After-u_of-u t) → Words 9 (2 ^ c.args.k) c.u_of-u.result
u_below t c = u_words (pow_pos _) c.in_ok-fresh.ensures.1 c.u_of-u.ensures

z_below : (t : ℕ) (c : After-z_of-z t) → Words 9 (2 ^ c.args.k) c.z_of-z.result
z_below t c =
    let o = (goal.at.After-z_of-z t c).After-u_of-u in
    subst (Words 9 _) (sym c.z_of-z.ensures) (z_words _ _ _ (words_at (pow_pos _) c.in_ok-fresh.ensures.1 0) (u_below t o))

-- U and Z as lists, and the result of U
us : (t : ℕ) (c : After-u_of-u t) → take (c.args.s - 1) c.u_of-u.result ≡ drop 1 (take c.args.s c.in_ok-fresh.fresh.words)
us t c = u_is c.requires.1 _ c.in_ok-fresh.ensures.1.size c.requires.2.most c.u_of-u.ensures

zs : (t : ℕ) (c : After-z_of-z t) →
    let ys = take c.args.s c.in_ok-fresh.fresh.words in
    take (c.args.s - 1) c.z_of-z.result ≡ z_of c.args.k (length ys) (get_or ys 0 0) (drop 1 ys)
zs t c = z_is c.requires.1 _ c.in_ok-fresh.ensures.1.size c.requires.2.most c.u_of-u.ensures _ c.z_of-z.ensures

gave_u : (t : ℕ) (c : After-z_of-z t) →
    let a = c.args in
    run (steps.rule a.k (a.s - 1 - 2) (drop 1 (take a.s c.in_ok-fresh.fresh.words))) a.tape.now c.in_ok-fresh.fresh.cursor
    ≡ ran (take (a.s - 1 - 1) c.in_ok-of_u.of_u.words) c.in_ok-of_u.of_u.cursor
gave_u t c = same_shares _ _ _ _ (us t (goal.at.After-z_of-z t c).After-u_of-u) c.in_ok-of_u.ensures.0

pub of_three-requires : goal.of_three-requires
of_three-requires t c = (c.requires.0, three_asked _ c.requires.2 c.if-s-eq3.true)

pub returns-then-s-eq3 : goal.returns-then-s-eq3
returns-then-s-eq3 t c = rule_three _ c.requires.2 c.if-s-eq3.true _ _ _ c.of_three.ensures

pub of_four-requires : goal.of_four-requires
of_four-requires t c = (c.requires.0, rw (sym c.if-s-eq4.true) c.requires.2)

pub returns-then-s-eq4 : goal.returns-then-s-eq4
returns-then-s-eq4 t c = rule_four _ _ _ _ _ c.if-s-eq4.true c.of_four.ensures

pub refresh-requires : goal.refresh-requires
refresh-requires t c = (search rules, (search rules, c.requires.2))

pub returns-in_err-fresh : goal.returns-in_err-fresh
returns-in_err-fresh t c = rw c.from_residual.ensures (refresh_ended _ (fewer t (goal.at.returns-in_err-fresh t c).After-refresh) _ _ _ c.in_err-fresh.ensures)

pub rule-requires : goal.rule-requires
rule-requires t c =
    let below = u_below t (goal.at.rule-requires t c).After-u_of-u in
    (omega arith, (c.requires.0, omega arith, held_shorter c.requires.2 c.requires.1 below))

pub returns-in_err-of_u : goal.returns-in_err-of_u
returns-in_err-of_u t c =
    let p = goal.at.returns-in_err-of_u t c in
    rw c.from_residual-in_err-of_u.ensures (u_ended _ (fewer t p.After-refresh) _ _ _ _ c.in_ok-fresh.ensures.0 (same_shares _ _ _ _ (us t p.After-u_of-u) c.in_err-of_u.ensures))

pub rule-requires-2 : goal.rule-requires-2
rule-requires-2 t c =
    let below = z_below t (goal.at.rule-requires-2 t c).After-z_of-z in
    (omega arith, (c.requires.0, omega arith, held_shorter c.requires.2 c.requires.1 below))

pub returns-in_err-of_z : goal.returns-in_err-of_z
returns-in_err-of_z t c =
    let p = goal.at.returns-in_err-of_z t c in
    rw c.from_residual-in_err-of_z.ensures
    (z_ended _ (fewer t p.After-refresh) _ _ _ _ c.in_ok-fresh.ensures.0 (gave_u t p.After-z_of-z) (same_shares _ _ _ _ (zs t p.After-z_of-z) c.in_err-of_z.ensures))

pub added-requires : goal.added-requires
added-requires t c = (omega (arith, c.requires.1), omega (arith, c.requires.2.most), c.requires.0, c.in_ok-of_u.ensures.1, c.in_ok-of_z.ensures.1)

pub returns : goal.returns
returns t c =
    let p = goal.at.returns t c in (
      rule_gave _ (fewer t p.After-refresh) _ _ _ _ c.in_ok-fresh.ensures.0 (gave_u t p.After-z_of-z) (same_shares _ _ _ _ (zs t p.After-z_of-z) c.in_ok-of_z.ensures.0)
          (results_added _ _ _ _ c.requires.1 c.added.ensures.1),
      c.added.ensures.0,
    )
