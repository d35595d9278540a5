use Rattle.std.proofs.Common.{◌≡◌, ◌≢◌, ◌<◌, length, pow_pos, rules, arith, get_or-set_other, get_or-set_same, below_more}
use Rattle.rules.proofs.ListLaws.{added_words, added_take}
use Rattle.psi.proofs.added.Goals as goal

pub loop-i-preserved : goal.loop-i-preserved
loop-i-preserved c =
    let i = c.loop-i.i in
    let short : i < length c.loop-i.word-items = search rules in
    below_more _ _
    (λ j h. let ne : j ≢ i = omega arith in rw get_or-set_other (c.loop-i.invariant j h))
    (rw get_or-set_same c.added_at.ensures)

pub returns : goal.returns
returns c =
    let (least, most, k, u, z) = c.requires in
    let all = c.loop-i.invariant in
    let long : length c.loop-i.word-items ≡ 8 = search rules in
    (added_words _ _ _ _ _ long (pow_pos _) u z (λ j l. all j (search rules)), added_take _ _ _ _ _ long (λ j l. all j (search rules)) (omega (arith, least)) most u.size)
