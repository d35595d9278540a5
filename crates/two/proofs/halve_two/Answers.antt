use mathlib.Core.Path.{◌≡◌}
use Prim.Native.Nat.{ℕ, ◌*◌, ◌%◌, ◌<◌}
use native.Mathlib.Omega.{arith}
use Rattle.numbers.specs.Modulo.{add_mod, sub_mod}
use Rattle.numbers.proofs.GroupLaws.{sums}
use Rattle.draws.proofs.DrawnLaws.{draw_below}
use Rattle.halves.specs.AtOnce.{joined}
use Rattle.halves.proofs.ParityLaws.{joined_below}
use Rattle.halves.proofs.TwoLaws.{two_ended, two_gave}
use Rattle.two.proofs.halve_two.Goals as goal
use Rattle.two.proofs.halve_two.Goals.{After-add_mod, After-joined-a, After-joined-b, After-sub_mod, After-sub_mod-d, After-sub_mod-e, In-Some}

-- what is added, subtracted or joined modulo 2m is below it
add_below : (m a b : ℕ) {r : ℕ} → a < 2 * m → b < 2 * m → r ≡ add_mod (2 * m) a b → r < 2 * m
add_below m a b h k e = rw e ((sums (2 * m) (omega arith)).add_below a b h k)

sub_below : (m a b : ℕ) {r : ℕ} → a < 2 * m → b < 2 * m → r ≡ sub_mod (2 * m) a b → r < 2 * m
sub_below m a b h k e = rw e ((sums (2 * m) (omega arith)).sub_below a b h k)

join_below : (m i x y : ℕ) {r : ℕ} → x < 2 * m → r ≡ joined (2 * m) (y % 2) i x → r < 2 * m
join_below m i x y h e = rw e (joined_below (2 * m) (y % 2) (omega arith) (omega arith) i x h)

-- at each step of the code
drawn : (c : In-Some) → c.in-Some.r < 2 * c.args.m
drawn c = draw_below _ _ c.in-Some.ensures

parity_below : (c : In-Some) → c.args.x % 2 < 2 * c.args.m
parity_below c = omega (arith, c.requires.0)

zero_below : (c : In-Some) → 0 < 2 * c.args.m
zero_below c = omega (arith, drawn c)

sum_below : (c : After-add_mod) → c.add_mod.result < 2 * c.args.m
sum_below c = add_below _ _ _ (parity_below (goal.at.After-add_mod c).In-Some) (drawn (goal.at.After-add_mod c).In-Some) c.add_mod.ensures

a_below : (c : After-joined-a) → c.joined-a.result < 2 * c.args.m
a_below c = join_below _ 0 _ c.args.y (sum_below (goal.at.After-joined-a c).After-add_mod) c.joined-a.ensures

difference_below : (c : After-sub_mod) → c.sub_mod.result < 2 * c.args.m
difference_below c = sub_below _ _ _ (zero_below (goal.at.After-sub_mod c).In-Some) (drawn (goal.at.After-sub_mod c).In-Some) c.sub_mod.ensures

b_below : (c : After-joined-b) → c.joined-b.result < 2 * c.args.m
b_below c = join_below _ 1 _ c.args.y (difference_below (goal.at.After-joined-b c).After-sub_mod) c.joined-b.ensures

d_below : (c : After-sub_mod-d) → c.sub_mod-d.result < 2 * c.args.m
d_below c = sub_below _ _ _ c.requires.0 (a_below (goal.at.After-sub_mod-d c).After-joined-a) c.sub_mod-d.ensures

e_below : (c : After-sub_mod-e) → c.sub_mod-e.result < 2 * c.args.m
e_below c = sub_below _ _ _ c.requires.1 (b_below (goal.at.After-sub_mod-e c).After-joined-b) c.sub_mod-e.ensures

pub returns-in_default : goal.returns-in_default
returns-in_default c =
    two_ended _ _ _ _ _ c.in_default.ensures

pub add_mod-requires : goal.add_mod-requires
add_mod-requires c = (parity_below c, drawn c)

pub joined-a-requires : goal.joined-a-requires
joined-a-requires c = let l = sum_below c in (l, omega arith, omega arith)

pub sub_mod-requires : goal.sub_mod-requires
sub_mod-requires c = (zero_below (goal.at.sub_mod-requires c).In-Some, drawn (goal.at.sub_mod-requires c).In-Some)

pub joined-b-requires : goal.joined-b-requires
joined-b-requires c = let l = difference_below c in (l, omega arith, omega arith)

pub sub_mod-d-requires : goal.sub_mod-d-requires
sub_mod-d-requires c = (c.requires.0, a_below (goal.at.sub_mod-d-requires c).After-joined-a)

pub sub_mod-e-requires : goal.sub_mod-e-requires
sub_mod-e-requires c = (c.requires.1, b_below (goal.at.sub_mod-e-requires c).After-joined-b)

pub add_mod-requires-2 : goal.add_mod-requires-2
add_mod-requires-2 c = let l = d_below (goal.at.add_mod-requires-2 c).After-sub_mod-d in (e_below c, omega arith)

pub returns : goal.returns
returns c =
    let l = d_below (goal.at.returns c).After-sub_mod-d in
    two_gave _ _ _ _ _ c.in-Some.ensures c.add_mod.ensures c.sub_mod.ensures c.joined-a.ensures c.joined-b.ensures c.sub_mod-d.ensures c.sub_mod-e.ensures l
    c.add_mod-2.ensures (add_below _ _ _ (e_below (goal.at.returns c).After-sub_mod-e) (omega arith) c.add_mod-2.ensures)
