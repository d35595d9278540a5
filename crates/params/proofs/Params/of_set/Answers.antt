use Rattle.std.proofs.Common.{◌≡◌, ℕ, Some, IsTrue, ap}
use Rattle.std.proofs.Math.Bool.{Bool-set}
use Rattle.params.specs.Facts.{kind_holds, set_holds}
use Rattle.params.specs.Sets.{bounds, params, set_of}
use Rattle.params.proofs.Params.of_set.Goals as goal

-- two sets of the same numbers are the same
same_set : {γ1 γ2 β δ μ a1 b1 ρ1 a2 b2 ρ2 : ℕ} {h1 k1 : IsTrue (kind_holds a1 b1 ρ1)} {h2 k2 : IsTrue (kind_holds a2 b2 ρ2)} {h k : IsTrue (set_holds γ1 γ2 β δ μ a1 b1 a2 b2)} →
    params γ1 γ2 β δ μ (bounds a1 b1 ρ1 h1) (bounds a2 b2 ρ2 h2) h ≡ params γ1 γ2 β δ μ (bounds a1 b1 ρ1 k1) (bounds a2 b2 ρ2 k2) k
same_set {γ1} {γ2} {β} {δ} {μ} {a1} {b1} {ρ1} {a2} {b2} {ρ2} {h1} {k1} {h2} {k2} {h} {k} = go k1 (Bool-set _ _ h1 k1) k2 (Bool-set _ _ h2 k2) k (Bool-set _ _ h k)
  where
    go : (x : IsTrue (kind_holds a1 b1 ρ1)) → h1 ≡ x → (y : IsTrue (kind_holds a2 b2 ρ2)) → h2 ≡ y → (z : IsTrue (set_holds γ1 γ2 β δ μ a1 b1 a2 b2)) → h ≡ z →
        params γ1 γ2 β δ μ (bounds a1 b1 ρ1 h1) (bounds a2 b2 ρ2 h2) h ≡ params γ1 γ2 β δ μ (bounds a1 b1 ρ1 x) (bounds a2 b2 ρ2 y) z
    go x e y f z g = cc

pub returns-in-44 : goal.returns-in-44
unfolding set_of
returns-in-44 c = rw c.in-44.is (ap Some same_set)

pub returns-in-65 : goal.returns-in-65
unfolding set_of
returns-in-65 c = rw c.in-65.is (ap Some same_set)

pub returns-in-87 : goal.returns-in-87
unfolding set_of
returns-in-87 c = rw c.in-87.is (ap Some same_set)
