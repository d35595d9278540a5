-- The laws of the parameter sets, and their numbers.
use Rattle.std.proofs.Common.{◌≡◌, Bool, true, false, ℕ, leb-true, ltb-true, eqb-true, Option, Some, None, is_some, unwrap_or, option_map, refl, sym, subst, arith, ne_eqb}
use Rattle.std.proofs.lemmas.Bool.Decides.{nat_tests}
use native.Mathlib.Decide.{ℕ_discrete}
use Rattle.numbers.specs.Tests.{both, pick}
use Rattle.params.specs.declared.Bounds.{Bounds}
use Rattle.params.specs.declared.Params.{Params}
use Rattle.params.specs.Sets.{set_of, kind_of_number, of_kind, bounds_of, Known, is_44, is_65, is_87, known, params_of, kind_of}
use Rattle.params.specs.Laws.{KindLaws, Laws}

-- both of two tests that hold
both_so : (a b : Bool) → both a b ≡ true → (a ≡ true) × (b ≡ true)
both_so true b e = (refl, e)
both_so false b e = cc

-- what the types of the constants keep, one by one
pub kind_laws : (b : Bounds) → KindLaws b
kind_laws b = let h = b.holds in grind (arith, nat_tests)

pub set_laws : (p : Params) → Laws p
set_laws p =
    let (masks, more) = both_so _ _ p.holds in
    let (offset, mask) = both_so _ _ masks in
    let (parts, kinds) = both_so _ _ more in
    let (part, deltas) = both_so _ _ parts in
    let (least, most) = both_so _ _ deltas in
    let (first, second) = both_so _ _ kinds in
    let (bound1, reach1) = both_so _ _ first in
    let (bound2, reach2) = both_so _ _ second in
    record {
      offset = ltb-true _ _ offset;
      mask = eqb-true _ _ mask;
      parts = eqb-true _ _ part;
      parts_least = leb-true _ _ least;
      parts_most = leb-true _ _ most;
      bound1 = eqb-true _ _ bound1;
      reach1 = eqb-true _ _ reach1;
      bound2 = eqb-true _ _ bound2;
      reach2 = eqb-true _ _ reach2;
      laws1 = kind_laws p.kind1;
      laws2 = kind_laws p.kind2;
    }

-- the test says what it is a test of
pub known_yes : {s : ℕ} → Known s → known s ≡ true
unfolding known set_of
known_yes is_44 = refl
known_yes is_65 = refl
known_yes is_87 = refl

pub known_so : (s : ℕ) → known s ≡ true → Known s
unfolding known set_of
known_so s e = go (ℕ_discrete s 44) (ℕ_discrete s 65) (ℕ_discrete s 87)
  where
    go : Dec (s ≡ 44) → Dec (s ≡ 65) → Dec (s ≡ 87) → Known s
    go (yes a) x y = subst Known (sym a) is_44
    go (no n) (yes b) y = subst Known (sym b) is_65
    go (no n) (no m) (yes c) = subst Known (sym c) is_87
    go (no n) (no m) (no l) =
        let f : false ≡ true = rw (ne_eqb s 44 n, ne_eqb s 65 m, ne_eqb s 87 l) at e in
        let z : ◌≡◌ {A = ℕ} 0 1 = cc in
        absurd (omega arith)

-- what there is of a number
pub known_is : (s : ℕ) → is_some (set_of s) ≡ known s
unfolding known
known_is s = refl

pub set_is : (s : ℕ) {p : Params} → set_of s ≡ Some p → p ≡ params_of s
unfolding params_of
set_is s e = rw e

pub bounds_are : (s kind : ℕ) {b : Bounds} → bounds_of s kind ≡ Some b → (set_of s ≡ Some (params_of s)) × (b ≡ kind_of s kind)
unfolding bounds_of params_of
bounds_are s kind e = go _ (is_some (kind_of_number kind)) (set_of s) e
  where
    go : (d : Params) (c : Bool) (o : Option Params) {b : Bounds} → pick c (option_map (λ p. of_kind p kind) o) None ≡ Some b →
        (o ≡ Some (unwrap_or o d)) × (b ≡ of_kind (unwrap_or o d) kind)
    go d true (Some p) e = (refl, cc)
    go d true None e = cc
    go d false o e = cc

-- there are bounds where the set is known, and the kind
pub bounds_known : (s kind : ℕ) → is_some (bounds_of s kind) ≡ both (known s) (is_some (kind_of_number kind))
unfolding bounds_of known
bounds_known s kind = go (is_some (kind_of_number kind)) (set_of s)
  where
    go : (c : Bool) (o : Option Params) → is_some (pick c (option_map (λ p. of_kind p kind) o) None) ≡ both (is_some o) c
    go true (Some p) = refl
    go true None = refl
    go false (Some p) = refl
    go false None = refl
