-- Calls of the verdict worked by hand. Of the shares that it opens a caller sees only the sum, in which a wrong order of the steps, a wrong sign or a
-- refresh left out need not show; so the product and the shares before the opening stand here too.
use Rattle.std.specs.Prelude.{◌≡◌, List, [], ◌∷◌, ℕ, length, take}
use Rattle.params.specs.Sets.{kind_of}
use Rattle.tape.specs.Tape.{ran, start}
use Rattle.draws.specs.Draws.{run}
use Rattle.gate.specs.Judge.{judges}
use Rattle.sizes.specs.Product.{product}
use Rattle.sizes.specs.Verdict.{tested, verdict_plan}
use Rattle.demands.specs.Gadgets.{verdict_gadget}

-- for two shares: 24 draws, and two words that are skipped
abbrev pub verdict_tape : List ℕ
verdict_tape =
    3 ∷ 10 ∷ 17 ∷ 24 ∷ 31 ∷ 38 ∷ 45 ∷ 52 ∷ 59 ∷ 66 ∷ 73 ∷ 80 ∷ 87 ∷ 94 ∷ 0 ∷ 7 ∷ 14 ∷ 21 ∷ 28 ∷ 35 ∷ 8380416 ∷ 42 ∷ 49 ∷ 8380417 ∷ 56 ∷ 63 ∷ []

pub record WorkedVerdict : Type 0 where
  -- 21 · 19 is 9 mod 10, and so is the sum. 12 is skipped; of the draws 3, 7, 9, 1, 4, 6 the first three belong to pairs of the first share, so the order of
  -- the pairs shows
  pub multiplied : run (product 10 (3 ∷ 7 ∷ 2 ∷ 9 ∷ []) (4 ∷ 1 ∷ 8 ∷ 6 ∷ [])) (3 ∷ 12 ∷ 7 ∷ 9 ∷ 1 ∷ 4 ∷ 6 ∷ []) start ≡ ran (1 ∷ 0 ∷ 4 ∷ 4 ∷ []) (record { at = 7 })
  -- the shares that are opened of 130993, the largest number within the reach that is accepted. The draws of the two sides, of the refresh of left, of the pair and of the
  -- two turns of the zero test show in them; 8380416 and 8380417 are skipped, so the scalars are 43 and 57
  pub tested_shares : run (tested (kind_of 44 1) (5000000 ∷ 3511410 ∷ [])) verdict_tape start ≡ ran (3891065 ∷ 6999176 ∷ []) (record { at = 26 })
  -- so their sum is opened, and it is accepted
  pub judged_small : judges (verdict_gadget 44 1) (5000000 ∷ 3511410 ∷ []) verdict_tape ≡ record { number = 0; others = 1 ∷ 2509824 ∷ []; used = 26; out = [] }
  -- 130994 is rejected
  pub judged_large : judges (verdict_gadget 44 1) (5000000 ∷ 3511411 ∷ []) verdict_tape ≡ record { number = 0; others = 0 ∷ 0 ∷ []; used = 26; out = [] }
  -- without the last word nothing is shown
  pub judged_short : judges (verdict_gadget 44 1) (5000000 ∷ 3511410 ∷ []) (take 25 verdict_tape) ≡ record { number = 5; others = 0 ∷ 0 ∷ []; used = 0; out = [] }
  -- beyond the reach it is not claimed which: −131151 is rejected in these shares and accepted in those
  pub beyond_rejected : (judges (verdict_gadget 44 1) (8249266 ∷ 0 ∷ []) verdict_tape).others ≡ 0 ∷ 0 ∷ []
  pub beyond_accepted : (judges (verdict_gadget 44 1) (1963954 ∷ 6285312 ∷ []) verdict_tape).others ≡ 1 ∷ 3446274 ∷ []
  -- 24 draws with two shares, 1079 with eight
  pub verdict_draws_2 : length (verdict_plan (kind_of 44 1) 2) ≡ 24
  pub verdict_draws_8 : length (verdict_plan (kind_of 44 1) 8) ≡ 1079
