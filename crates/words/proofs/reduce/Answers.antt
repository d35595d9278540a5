use mathlib.Core.Path.{sym, ap, ◌∙◌}
use Prim.Native.Nat.{◌%◌}
use Rattle.words.proofs.reduce.Goals as goal

pub returns-then-m-eq-Q : goal.returns-then-m-eq-Q
returns-then-m-eq-Q c = c.reduce_q.ensures ∙ ap (λ m. c.args.x % m) (sym c.if-m-eq-Q.true)
