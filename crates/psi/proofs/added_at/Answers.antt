use Rattle.std.proofs.Common.{sym, arith}
use Rattle.psi.proofs.added_at.Goals as goal

pub add_mod-requires : goal.add_mod-requires
add_mod-requires c = let p = c.requires in rw c.power.ensures (p.2.below _ p.0, p.3.below _ p.0)

pub returns-then-i-last : goal.returns-then-i-last
returns-then-i-last c =
    let i = c.if-i-last.true in
    (λ l. rw (sym c.power.ensures) c.add_mod.ensures, λ e. absurd (omega (arith, e, i)), λ l. absurd (omega (arith, l, i)))
