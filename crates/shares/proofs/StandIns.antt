-- A stand-in that must not pass: a refresh that copies its shares.
use mathlib.Core.Path.{◌≡◌, sym, ap, ◌∙◌}
use mathlib.Core.Logic.{◌≢◌}
use mathlib.Core.List.{List}
use Prim.Native.Nat.{ℕ, ◌<◌}
use lib.ListN.{get_or}
use Rattle.draws.specs.Draws.{Draws}
use Rattle.draws.specs.Anew.{ExactlyOne}
use Rattle.draws.proofs.Outcomes.{feed}
use Rattle.shares.specs.Closing.{SameBut}

-- whatever it draws, a program that hands the shares ys back leads by no setting to shares that differ from them in a share but j
pub copying_has_no_setting : (p : Draws (List ℕ)) (ys zs : List ℕ) → ((us : List ℕ) → feed p us ≡ ys) →
    (k M n j i : ℕ) → i < n → i ≢ j → get_or ys i 0 ≢ get_or zs i 0 → ¬ (ExactlyOne k M (λ us. SameBut n j (feed p us) zs))
copying_has_no_setting p ys zs copies k M n j i h m d one =
    d (ap (λ (l : List ℕ). get_or l i 0) (sym (copies one.setting)) ∙ one.works i h m)
