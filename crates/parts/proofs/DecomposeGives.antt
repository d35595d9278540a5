-- What Decompose opens is FIPS 204's high part, and the low shares recombine to its low part: of every residue, over any n and any set that has its
-- laws, whatever the draws.
use mathlib.Core.Path.{◌≡◌, sym, ap, subst, ◌∙◌}
use mathlib.Core.List.{List, [], ◌∷◌}
use Prim.Native.Nat.{ℕ, suc, ◌+◌, ◌-◌, ◌*◌, ◌/◌, ◌%◌, ◌^◌, ◌≤◌, ◌<◌}
use native.Mathlib.Nat.{mod-lt, mod-eq_of_lt, add-mul-mod_self_left, mul-le-mul_right, mul-lt-mul_of_pos_right, div-lt_iff_lt-mul, le-div_iff_mul-le, lt-div-mul-add, div-mul-le_self, div-eq_of_lt-le, lt_of_mul-lt-mul_right}
use native.Mathlib.Omega.{arith}
use lib.Pow.{pow-add}
use Rattle.numbers.specs.Modulo.{q, add_mod, sub_mod}
use Rattle.numbers.specs.Bits.{alpha}
use Rattle.numbers.specs.Lists.{Words, sum}
use Rattle.numbers.specs.Centred.{centred}
use Rattle.numbers.proofs.BitsLaws.{alpha_smallest}
use Rattle.params.specs.declared.Params.{Params}
use Rattle.params.specs.Laws.{Laws}
use Rattle.params.proofs.RoomLaws.{half_least, half_below, multiple_below}
use Rattle.draws.proofs.Outcomes.{Gives}
use Rattle.draws.proofs.PlanLaws.{gives_bind, gives_map}
use Rattle.shares.specs.Sharing.{arithmetic, value}
use Rattle.shares.specs.Refresh.{refresh, refresh_plan}
use Rattle.shares.proofs.SharingLaws.{Shares, value_below}
use Rattle.shares.proofs.RefreshLaws.{refresh_keeps}
use Rattle.first.specs.First.{add_to_first}
use Rattle.first.proofs.FirstLaws.{added_first, taken_first}
use Rattle.halves.proofs.CarryLaws.{Carried, carries_give}
use Rattle.gate.specs.Told.{Outcome}
use Rattle.parts.specs.Decompose.{high_shift, high_shares, high_part, high_plan, low_shares, decompose}
use Rattle.parts.specs.Plain.{high_of, low_of}
use Rattle.parts.proofs.PlainLaws.{high_plain, low_plain}

-- floor((floor(Y·T/Q) + e) / T) is floor(Y/Q), where e·Q is below T
scaled_floor : (Q T Y e : ℕ) → 0 < Q → e * Q < T → (Y * T / Q + e) / T ≡ Y / Q
scaled_floor Q T Y e some h =
    let G : ℕ = Y * T / Q in
    let y : ℕ = Y / Q in
    let low : y * T ≤ G = (le-div_iff_mul-le some).1 (omega (arith, mul-le-mul_right T (div-mul-le_self Y Q))) in
    let up : (G + e) * Q < (y + 1) * T * Q = omega (arith, div-mul-le_self (Y * T) Q, mul-le-mul_right T (lt-div-mul-add {a = Y} some)) in
    div-eq_of_lt-le T (omega arith) (lt_of_mul-lt-mul_right Q up)

-- low shares of x
pub record Low (γ2 n x : ℕ) (ys : List ℕ) : Type 0 where
  pub words : Words n q ys
  pub is : centred q (value (arithmetic q) ys) ≡ low_of γ2 x

-- the high part of x, opened, and low shares
pub record Parts (γ2 n x : ℕ) (o : Outcome) : Type 0 where
  pub opened : o.others ≡ high_of γ2 x ∷ []
  pub low : Low γ2 n x o.shares

module _ {p : Params} (l : Laws p) where
  abbrev δ : ℕ
  δ = p.delta

  -- X·δ/q is below δ, so it is its own remainder, and wraps vanish
  floor_small : (X : ℕ) → X < q → X * δ / q < δ
  floor_small X h =
      (div-lt_iff_lt-mul {k = q} {x = X * δ} {y = δ} (omega arith)).1 (omega (arith, mul-lt-mul_of_pos_right {m = X} {n = q} {k = δ} h (omega (arith, l.parts_least))))

  floor_mod : (X E : ℕ) → X < q → (X * δ / q + δ * E) % δ ≡ X * δ / q
  floor_mod X E h = add-mul-mod_self_left (X * δ / q) δ E ∙ mod-eq_of_lt (floor_small X h)

  -- of a residue: the floor is r1, which is below δ, and r less 2γ2·r1 means r0
  module _ (x : ℕ) (below : x < q) where
    plain_high : (x + p.gamma2) % q * δ / q ≡ high_of p.gamma2 x
    plain_high = high_plain p.gamma2 δ x (half_least l) (omega (arith, l.parts_least)) l.parts below

    plain_small : high_of p.gamma2 x < δ
    plain_small = subst (λ (y : ℕ). y < δ) plain_high (floor_small ((x + p.gamma2) % q) (mod-lt (x + p.gamma2) (omega arith)))

    plain_low : centred q (sub_mod q x (2 * p.gamma2 * high_of p.gamma2 x)) ≡ low_of p.gamma2 x
    plain_low = low_plain p.gamma2 δ x (half_least l) (omega (arith, l.parts_least)) l.parts below

  module _ (d x : ℕ) {xs : List ℕ} (a : Shares (arithmetic q) (suc d) x xs) where
    t : ℕ
    t = high_shift (suc d)

    ys : List ℕ
    ys = add_to_first (arithmetic q) p.gamma2 xs

    -- γ2 added
    offset : Shares (arithmetic q) (suc d) (add_mod q x p.gamma2) ys
    unfolding ys
    offset = added_first (arithmetic q) p.gamma2 (omega arith) (half_below l) (omega arith) a

    below : x < q
    below = value_below (arithmetic q) (omega arith) a

    -- as many shares as there are lose less than 2^(23+α)
    room : (e : ℕ) → e ≤ d → e * q < 2 ^ t
    unfolding t
    room e h =
        let few : e + 1 ≤ 2 ^ alpha (suc d) = omega (arith, (alpha_smallest (suc d)).holds) in
        rw (pow-add 2 23 (alpha (suc d))) (omega (arith, mul-le-mul_right q few))

    high_is : (e : ℕ) → e ≤ d → ((sum ys % q * (δ * 2 ^ t) / q + e) / 2 ^ t + δ * (sum ys / q)) % δ ≡ high_of p.gamma2 x
    unfolding add_mod
    high_is e h =
        let X : ℕ = sum ys % q in
        let flat : X * (δ * 2 ^ t) ≡ X * δ * 2 ^ t = omega arith in
        ap (λ (y : ℕ). ((y / q + e) / 2 ^ t + δ * (sum ys / q)) % δ) flat
        ∙ ap (λ (y : ℕ). (y + δ * (sum ys / q)) % δ) (scaled_floor q (2 ^ t) (X * δ) e (omega arith) (room e h))
        ∙ floor_mod X (sum ys / q) (mod-lt (sum ys) (omega arith))
        ∙ ap (λ (y : ℕ). y * δ / q) offset.is
        ∙ plain_high x below

    shares_give : Gives (Shares (arithmetic δ) (suc d) (high_of p.gamma2 x)) (high_shares p xs) (high_plan p (suc d))
    unfolding high_shares high_plan t ys
    shares_give =
        let c : Carried d δ t (δ * 2 ^ t) q q δ ys = carries_give d δ t (δ * 2 ^ t) q q δ ys (omega (arith, l.parts_least)) (omega arith) (omega arith) offset.words in
        rw a.words.size
        (gives_bind (refresh (arithmetic δ)) (refresh_plan (arithmetic δ) (suc d)) c.shares
        (λ hs s. refresh_keeps (arithmetic δ) (omega (arith, l.parts_least)) (high_of p.gamma2 x) hs (omega arith)
        (record { words = s.words; is = s.is ∙ high_is c.off c.most })))

    part_gives : Gives (λ high. high ≡ high_of p.gamma2 x) (high_part p xs) (high_plan p (suc d))
    unfolding high_part
    part_gives = gives_map (λ high. high ≡ high_of p.gamma2 x) (value (arithmetic δ)) shares_give (λ hs s. s.is)

  -- the low shares recombine to r0
  low_gives : (n x high : ℕ) (xs : List ℕ) → 0 < n → Shares (arithmetic q) n x xs → high ≡ high_of p.gamma2 x → Low p.gamma2 n x (low_shares p high xs)
  unfolding low_shares
  low_gives n x high xs some a e =
      let below : x < q = value_below (arithmetic q) (omega arith) a in
      let r : ℕ = 2 * p.gamma2 * high_of p.gamma2 x in
      let w = taken_first (arithmetic q) r (omega arith) (multiple_below l (plain_small x below)) some a in
      rw e (record { words = w.words; is = ap (centred q) w.is ∙ plain_low x below })

  -- Decompose makes the planned draws, and whatever they give, it opens r1 and gives shares of r0
  pub decompose_gives : (n x : ℕ) (xs : List ℕ) → 0 < n → Shares (arithmetic q) n x xs → Gives (Parts p.gamma2 n x) (decompose p xs) (high_plan p n)
  unfolding decompose
  decompose_gives n x xs some a =
      let one : suc (n - 1) ≡ n = omega arith in
      let high = subst (λ (m : ℕ). Gives (λ h. h ≡ high_of p.gamma2 x) (high_part p xs) (high_plan p m)) one (part_gives (n - 1) x (subst (λ (m : ℕ). Shares (arithmetic q) m x xs) (sym one) a)) in
      gives_map (Parts p.gamma2 n x) (λ h. record { others = h ∷ []; shares = low_shares p h xs }) high
      (λ h e. record { opened = ap (λ (k : ℕ). k ∷ []) e; low = low_gives n x h xs some a e })
