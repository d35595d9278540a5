-- What sampling gives, over any n that leaves room and any set that has its laws: the plan, and the value by the words drawn first.
use mathlib.Core.Path.{◌≡◌, refl, subst, ◌∙◌}
use mathlib.Core.List.{List, ◌++◌}
use Prim.Native.Nat.{ℕ, ◌+◌, ◌-◌, ◌*◌, ◌%◌, ◌^◌, ◌≤◌, ◌<◌}
use native.Mathlib.Nat.{mod-eq_of_lt}
use native.Mathlib.Omega.{arith}
use Rattle.numbers.specs.Modulo.{q, sub_mod}
use Rattle.numbers.specs.Bits.{alpha}
use Rattle.numbers.specs.Lists.{Words, xor_all}
use Rattle.numbers.proofs.GroupLaws.{xors}
use Rattle.numbers.proofs.FoldLaws.{fold_below}
use Rattle.params.specs.declared.Params.{Params}
use Rattle.params.specs.Laws.{Laws}
use Rattle.params.proofs.RoomLaws.{mask_small}
use Rattle.draws.proofs.Outcomes.{Gives}
use Rattle.draws.proofs.PlanLaws.{gives_bind, gives_as, gives_all, fits_words}
use Rattle.shares.specs.Sharing.{arithmetic}
use Rattle.shares.specs.Refresh.{refresh, refresh_plan}
use Rattle.shares.proofs.SharingLaws.{Shares}
use Rattle.shares.proofs.RefreshLaws.{refresh_keeps}
use Rattle.first.proofs.FirstLaws.{taken_first}
use Rattle.masks.specs.ToModulus.{to_modulus_plan}
use Rattle.masks.proofs.ModulusGives.{to_modulus_keeps}
use Rattle.masks.specs.Sampling.{lowered, mask_plan, masked, coefficient, coefficient_plan}

module _ {p : Params} (l : Laws p) (n : ℕ) (least : 0 < n) (room : p.mu + alpha n ≤ 32) where
  -- the exclusive or of the words drawn is below 2γ1
  pub drawn_below : (xs : List ℕ) → Words n (2 ^ p.mu) xs → xor_all xs < 2 * p.gamma1
  unfolding xor_all
  drawn_below xs w = subst (xor_all xs <◌) l.mask (fold_below (xors p.mu) xs w)

  pub masked_gives : (xs : List ℕ) → Words n (2 ^ p.mu) xs →
      Gives (Shares (arithmetic q) n (sub_mod q (xor_all xs) (p.gamma1 - 1))) (masked p xs) (to_modulus_plan q p.mu n ++ refresh_plan (arithmetic q) n)
  unfolding lowered
  masked_gives xs w =
      let small : xor_all xs % q ≡ xor_all xs = mod-eq_of_lt (omega (arith, drawn_below xs w, mask_small l)) in
      gives_bind (λ ys. refresh (arithmetic q) (lowered p.gamma1 ys)) (refresh_plan (arithmetic q) n)
      (to_modulus_keeps q p.mu n (xor_all xs) xs (omega arith) room least (record { words = w; is = refl }))
      (λ ys a. refresh_keeps (arithmetic q) (omega arith) _ _ least
      (taken_first (arithmetic q) (p.gamma1 - 1) (omega arith) (omega (arith, mask_small l)) least (record { words = a.words; is = a.is ∙ small })))

  pub coefficient_gives : Gives (Words n q) (coefficient p n) (coefficient_plan p n)
  unfolding coefficient coefficient_plan
  coefficient_gives =
      gives_bind (masked p) (to_modulus_plan q p.mu n ++ refresh_plan (arithmetic q) n) (gives_all (mask_plan p n))
      (λ xs f. gives_as (λ ys a. a.words) (masked_gives xs (fits_words n (2 ^ p.mu) xs f)))
