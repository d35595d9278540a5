use Rattle.std.proofs.Common.{◌≡◌, refl, sym, subst, ◌∙◌, List, [], ◌∷◌, ℕ, ◌^◌, get_or, take, drop, arith}
use Rattle.numbers.specs.Modulo.{add_mod, xor}
use Rattle.numbers.specs.Lists.{Words}
use Rattle.numbers.proofs.WordsLaws.{words_head, words_tail, words_take}
use Rattle.tape.specs.Tape.{ran}
use Rattle.draws.specs.Draws.{done, draw, run}
use Rattle.draws.proofs.RunLaws.{run_done}
use Rattle.shares.specs.Sharing.{boolean}
use Rattle.shares.specs.Refresh.{refresh}
use Rattle.rules.specs.Psi.{z_of}
use Rattle.rules.proofs.ListLaws.{z_words}
use Rattle.rules.proofs.RuleLaws.{refresh_ended, u_ended, z_ended, rule_gave, same_shares, Left, draw_ended, drew, four, refresh_four, fresh_below, four_z, four_added, four_below, three_held}
use Rattle.few.proofs.of_four.Goals as goal
use Rattle.few.proofs.of_four.Goals.{After-add_mod-sum, After-power-m, After-psi-3, In-Some, In-Some-draw, In-Some-draw-2}

-- what is left of the refresh: at first, after one draw and after two; draws below m are below 2^k
begun : (c : After-power-m) →
    let a = c.args in
    Left (run (refresh (boolean a.k) (take 4 a.shares)) a.tape.now a.cursor)
    (draw (2 ^ a.k) (λ r. draw (2 ^ a.k) (λ v. draw (2 ^ a.k) (λ w. done (four a.shares r v w))))) a.tape.now a.cursor
begun c = refresh_four _ c.args.shares _ _ c.requires.1.all.size

one : (c : In-Some) →
    let a = c.args in
    Left (run (refresh (boolean a.k) (take 4 a.shares)) a.tape.now a.cursor)
    (draw (2 ^ a.k) (λ v. draw (2 ^ a.k) (λ w. done (four a.shares c.in-Some.r v w)))) a.tape.now c.in-Some.c1
one c = drew (begun (goal.at.In-Some c).After-power-m) (rw c.power-m.ensures at c.in-Some.ensures)

two : (c : In-Some-draw) →
    let a = c.args in
    Left (run (refresh (boolean a.k) (take 4 a.shares)) a.tape.now a.cursor)
    (draw (2 ^ a.k) (λ w. done (four a.shares c.in-Some.r c.in-Some-draw.v w))) a.tape.now c.in-Some-draw.c2
two c = drew (one (goal.at.In-Some-draw c).In-Some) (rw c.power-m.ensures at c.in-Some-draw.ensures)

-- the refreshed shares
abbrev fresh : In-Some-draw-2 → List ℕ
fresh c =
    four c.args.shares c.in-Some.r c.in-Some-draw.v c.in-Some-draw-2.w

refreshed : (c : In-Some-draw-2) →
    let a = c.args in
    run (refresh (boolean a.k) (take 4 a.shares)) a.tape.now a.cursor ≡ ran (fresh c) c.in-Some-draw-2.c3
refreshed c = (drew (two (goal.at.In-Some-draw-2 c).In-Some-draw) (rw c.power-m.ensures at c.in-Some-draw-2.ensures)).same ∙ run_done _ _ _

below : (c : In-Some-draw-2) → Words 4 (2 ^ c.args.k) (fresh c)
below c = fresh_below 4 _ _ _ _ _ (omega arith) (words_take 4 (omega arith) c.requires.1.all) (refreshed c)

-- Z
zs : (c : After-psi-3) →
    ◌≡◌ {A = List ℕ} (c.psi.result ∷ c.psi-2.result ∷ c.psi-3.result ∷ [])
    (z_of c.args.k 4 (get_or (fresh (goal.at.After-psi-3 c).In-Some-draw-2) 0 0) (drop 1 (fresh (goal.at.After-psi-3 c).In-Some-draw-2)))
unfolding xor
zs c = four_z _ (get_or (fresh (goal.at.After-psi-3 c).In-Some-draw-2) 0 0) _ _ _ c.psi.ensures c.psi-2.ensures c.psi-3.ensures

total : (c : After-add_mod-sum) →
    c.add_mod-sum.result ≡ add_mod (2 ^ c.args.k) (get_or c.in_ok-of_u.of_u.words 0 0) (get_or c.in_ok-of_z.of_z.words 0 0)
total c = rw (sym c.power-m.ensures) c.add_mod-sum.ensures

pub draw-requires : goal.draw-requires
draw-requires c = rw c.power-m.ensures c.requires.1.two

pub returns-in_default : goal.returns-in_default
returns-in_default c = refresh_ended _ refl _ _ _ (draw_ended (begun (goal.at.returns-in_default c).After-power-m) (rw c.power-m.ensures at c.in_default.ensures))

pub draw-requires-2 : goal.draw-requires-2
draw-requires-2 c = rw c.power-m.ensures c.requires.1.two

pub returns-in_default-draw : goal.returns-in_default-draw
returns-in_default-draw c = refresh_ended _ refl _ _ _ (draw_ended (one (goal.at.returns-in_default-draw c).In-Some) (rw c.power-m.ensures at c.in_default-draw.ensures))

pub draw-requires-3 : goal.draw-requires-3
draw-requires-3 c = rw c.power-m.ensures c.requires.1.two

pub returns-in_default-draw-2 : goal.returns-in_default-draw-2
returns-in_default-draw-2 c = refresh_ended _ refl _ _ _ (draw_ended (two (goal.at.returns-in_default-draw-2 c).In-Some-draw) (rw c.power-m.ensures at c.in_default-draw-2.ensures))

pub of_three-requires : goal.of_three-requires
unfolding xor
of_three-requires c = (c.requires.0, three_held c.requires.1.two (words_tail (below c)))

pub returns-in_err-of_u : goal.returns-in_err-of_u
unfolding xor
returns-in_err-of_u c =
    rw c.from_residual.ensures (u_ended _ refl _ _ _ _ (refreshed (goal.at.returns-in_err-of_u c).In-Some-draw-2) c.in_err-of_u.ensures)

pub of_three-requires-2 : goal.of_three-requires-2
of_three-requires-2 c =
    (c.requires.0, three_held c.requires.1.two (subst (Words 3 _) (sym (zs (goal.at.of_three-requires-2 c).After-psi-3)) (z_words _ 4 _ (words_head (below (goal.at.of_three-requires-2 c).In-Some-draw-2)) (words_tail (below (goal.at.of_three-requires-2 c).In-Some-draw-2)))))

pub returns-in_err-of_z : goal.returns-in_err-of_z
unfolding xor
returns-in_err-of_z c =
    rw c.from_residual-in_err-of_z.ensures (z_ended _ refl _ _ _ _ (refreshed (goal.at.returns-in_err-of_z c).In-Some-draw-2) c.in_ok-of_u.ensures.0
    (same_shares _ _ _ _ (zs (goal.at.returns-in_err-of_z c).After-psi-3) c.in_err-of_z.ensures))

pub add_mod-sum-requires : goal.add_mod-sum-requires
add_mod-sum-requires c = rw c.power-m.ensures (c.in_ok-of_u.ensures.1.below 0 (omega arith), c.in_ok-of_z.ensures.1.below 0 (omega arith))

pub returns : goal.returns
unfolding xor
returns c =
    let (u, us) = c.in_ok-of_u.ensures in
    let (z, zs₁) = c.in_ok-of_z.ensures in (
      rule_gave _ refl _ _ _ _ (refreshed (goal.at.returns c).In-Some-draw-2) u
          (same_shares _ _ _ _ (zs (goal.at.returns c).After-psi-3) z) (four_added _ (total (goal.at.returns c).After-add_mod-sum) us zs₁),
      four_below _ (total (goal.at.returns c).After-add_mod-sum) us zs₁,
    )
