-- The answer of every gadget whose promise has the one form is unique.
use mathlib.Core.Path.{◌≡◌, refl, sym, ap, ◌∙◌}
use mathlib.Core.List.{List}
use Prim.Native.Nat.{ℕ}
use Rattle.gate.specs.Told.{Told, stands_for}
use Rattle.gate.specs.Gadget.{Gadget, tells}
use Rattle.demands.specs.Unique.{Unique}

-- two answers that stand for the same are the same, if what they stand for shows the answer and the output slice
pub unique_by : {R : Type 0} (stands : R → List ℕ → Told) (answer : Told → R) (slice : Told → List ℕ) →
    ((r : R) (out : List ℕ) → answer (stands r out) ≡ r) → ((r : R) (out : List ℕ) → slice (stands r out) ≡ out) → (t : Told) → Unique stands t
unique_by stands answer slice f g t r s out filled e h = (sym (f r out) ∙ ap answer (e ∙ sym h) ∙ f s filled, sym (g r out) ∙ ap slice (e ∙ sym h) ∙ g s filled)

-- so the answer of every gadget that answers a number and words used, and leaves its shares in the output slice
pub unique_told : (t : Told) → Unique stands_for t
unfolding stands_for
unique_told t = unique_by stands_for (λ a. record { number = a.number; used = a.used }) (λ a. a.out) (λ r filled. refl) (λ r filled. refl) t

pub unique : (g : Gadget) (shares tape out : List ℕ) → Unique stands_for (tells g shares tape out)
unique g shares tape out = unique_told (tells g shares tape out)
