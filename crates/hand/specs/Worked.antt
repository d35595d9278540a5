-- Calls worked by hand beyond document 01's table, where no case has three shares: they show the order of the shares, into which one a parity
-- moves, where the results of U and Z go, where each coefficient of a polynomial stands, what a refusal leaves and hides, and that the demands speak of
-- something.
use Rattle.std.specs.Prelude.{◌≡◌, [], ◌∷◌, ◌++◌, replicate}
use Rattle.numbers.specs.Lists.{over}
use Rattle.gate.specs.Gadget.{tells}
use Rattle.gate.specs.Sampler.{samples}
use Rattle.demands.specs.Gadgets.{sampler, polynomial_sampler, widen_gadget, decompose_gadget, refresh_gadget, boolean_gadget, shift_gadget, to_boolean_gadget, to_arithmetic_gadget, to_mod_q_gadget}

pub record Worked : Type 0 where
  -- of 12, 3, 6 the first word is skipped: 3 and 6 go into the first two shares and are taken from the third
  pub refreshed : tells (refresh_gadget 10) (7 ∷ 8 ∷ 9 ∷ []) (12 ∷ 3 ∷ 6 ∷ 5 ∷ []) (1 ∷ 1 ∷ 1 ∷ [])
      ≡ record { number = 0; others = []; used = 3; out = 0 ∷ 4 ∷ 0 ∷ [] }
  -- the low three bits of 9 and 4 are 1 and 4
  pub refreshed_boolean : tells (boolean_gadget 3) (5 ∷ 6 ∷ 1 ∷ []) (9 ∷ 4 ∷ []) (0 ∷ 0 ∷ 0 ∷ [])
      ≡ record { number = 0; others = []; used = 2; out = 4 ∷ 2 ∷ 4 ∷ [] }
  -- 3, 5, 3, 10 are drawn below 12; 3, 4, 4, 0 below 6, where 7 is skipped; 2 and 1 below 3. The shares sum to 10 mod 12, and then to 2 mod 3
  pub shifted : tells (shift_gadget 12 2) (7 ∷ 7 ∷ 8 ∷ []) (3 ∷ 5 ∷ 3 ∷ 10 ∷ 3 ∷ 12 ∷ 7 ∷ 4 ∷ 0 ∷ 6 ∷ 13 ∷ 8 ∷ []) (0 ∷ 0 ∷ 0 ∷ [])
      ≡ record { number = 0; others = []; used = 11; out = 0 ∷ 2 ∷ 0 ∷ [] }
  -- 5 + 1 + 1 is 7, and so is the exclusive or
  pub made_boolean : tells (to_boolean_gadget 3) (5 ∷ 1 ∷ 1 ∷ []) (3 ∷ 3 ∷ 0 ∷ 3 ∷ 6 ∷ 1 ∷ 4 ∷ 1 ∷ 1 ∷ 0 ∷ []) (0 ∷ 0 ∷ 0 ∷ [])
      ≡ record { number = 0; others = []; used = 10; out = 0 ∷ 5 ∷ 2 ∷ [] }
  -- the exclusive or of 7, 7, 7, 3 is 4, and so is the sum mod 8. With four shares the rule begins with five, so x_1 goes into Z_1, and three levels show
  -- where each result goes
  pub made_arithmetic : tells (to_arithmetic_gadget 3) (7 ∷ 7 ∷ 7 ∷ 3 ∷ [])
      (2 ∷ 7 ∷ 2 ∷ 1 ∷ 7 ∷ 4 ∷ 2 ∷ 1 ∷ 0 ∷ 6 ∷ 7 ∷ 2 ∷ 0 ∷ 1 ∷ 0 ∷ 0 ∷ 3 ∷ 3 ∷ 0 ∷ 7 ∷ 5 ∷ []) (0 ∷ 0 ∷ 0 ∷ 0 ∷ [])
      ≡ record { number = 0; others = []; used = 21; out = 7 ∷ 6 ∷ 0 ∷ 7 ∷ [] }
  -- the exclusive or of 3, 1, 0 is 2, and so is the sum mod q. Seven draws are below 2^4, four below 4q, four below 2q, two below q
  pub made_mod_q : tells (to_mod_q_gadget 2) (3 ∷ 1 ∷ 0 ∷ []) (17 ∷ 37 ∷ 19 ∷ 1 ∷ 13 ∷ 11 ∷ 25 ∷ 38 ∷ 41 ∷ 36 ∷ 6 ∷ 2 ∷ 9 ∷ 13 ∷ 28 ∷ 16 ∷ 0 ∷ []) (0 ∷ 0 ∷ 0 ∷ [])
      ≡ record { number = 0; others = []; used = 17; out = 8380017 ∷ 8379948 ∷ 871 ∷ [] }
  -- one word too few, and the output slice stays as it was
  pub short : tells (refresh_gadget 10) (7 ∷ 8 ∷ 9 ∷ []) (12 ∷ 3 ∷ []) (1 ∷ 2 ∷ 3 ∷ []) ≡ record { number = 5; others = []; used = 0; out = 1 ∷ 2 ∷ 3 ∷ [] }
  -- the low 20 bits of the first three words are 1, 3, 6, whose exclusive or is 4; 4 − 524287 mod q is the sum of the shares. 8380417 is skipped
  -- in the closing refresh
  pub sampled : samples (sampler 65) 3 (1048577 ∷ 3 ∷ 6 ∷ 5 ∷ 9 ∷ 2 ∷ 7 ∷ 1 ∷ 4 ∷ 8 ∷ 10 ∷ 11 ∷ 13 ∷ 15 ∷ 17 ∷ 19 ∷ 21 ∷ 23 ∷ 25 ∷ 8380417 ∷ 27 ∷ 29 ∷ []) (0 ∷ 0 ∷ 0 ∷ [])
      ≡ record { number = 0; others = []; used = 21; out = 3678250 ∷ 16396 ∷ 4161488 ∷ [] }
  -- there is no set 66
  pub unknown : samples (sampler 66) 2 (0 ∷ []) (7 ∷ 7 ∷ []) ≡ record { number = 3; others = []; used = 0; out = 7 ∷ 7 ∷ [] }
  -- six words for each of 256 coefficients. The first word of the second coefficient is 1, so its value is greater by 1 than that of the others
  pub filled : samples (polynomial_sampler 44) 2 (replicate 6 0 ++ (1 ∷ replicate 1529 0)) (replicate 512 7)
      ≡ record { number = 0; others = []; used = 1536; out = 8249346 ∷ 0 ∷ 8249346 ∷ 1 ∷ over (λ c xs. 8249346 ∷ 0 ∷ xs) 254 [] }
  -- a polynomial's slice is wiped where the tape ends, and kept where it has the wrong length
  pub wiped : samples (polynomial_sampler 87) 2 (0 ∷ 0 ∷ 0 ∷ 0 ∷ 0 ∷ 0 ∷ 0 ∷ []) (replicate 512 7) ≡ record { number = 5; others = []; used = 0; out = replicate 512 0 }
  pub kept : samples (polynomial_sampler 87) 2 (0 ∷ []) (replicate 511 7) ≡ record { number = 2; others = []; used = 0; out = replicate 511 7 }
  -- 8380340 is −77 modulo q, and the shares sum to −77 modulo 256·q too. Four draws each are below 2^11, 2^10 and 2^9, two below 256·q
  pub widened : tells (widen_gadget 44 1) (5000000 ∷ 3380300 ∷ 40 ∷ []) (3 ∷ 10 ∷ 17 ∷ 24 ∷ 31 ∷ 38 ∷ 45 ∷ 52 ∷ 59 ∷ 66 ∷ 73 ∷ 80 ∷ 87 ∷ 94 ∷ []) (0 ∷ 0 ∷ 0 ∷ [])
      ≡ record { number = 0; others = []; used = 14; out = 1454812228 ∷ 1361007948 ∷ 1474953251 ∷ [] }
  -- there is no kind 3
  pub no_kind : tells (widen_gadget 44 3) (1 ∷ 2 ∷ []) (0 ∷ []) (7 ∷ 7 ∷ []) ≡ record { number = 3; others = []; used = 0; out = 7 ∷ 7 ∷ [] }
  -- 95233 is 1 times 190464, less 95231. Of the tape, 50 is skipped in the refresh mod 44 and 8380417 in the closing one
  pub decomposed : tells (decompose_gadget 44) (8000000 ∷ 475650 ∷ []) (1 ∷ 6 ∷ 11 ∷ 16 ∷ 4 ∷ 9 ∷ 14 ∷ 2 ∷ 7 ∷ 12 ∷ 0 ∷ 5 ∷ 10 ∷ 15 ∷ 3 ∷ 8 ∷ 13 ∷ 1 ∷ 6 ∷ 11 ∷ 16 ∷ 4 ∷ 9 ∷ 14 ∷ 50 ∷ 7 ∷ 8380417 ∷ 9 ∷ []) (0 ∷ 0 ∷ [])
      ≡ record { number = 0; others = 1 ∷ []; used = 28; out = 7809545 ∷ 475641 ∷ [] }
  -- with a word less, the high part has been opened but the closing refresh meets the end: the high part is not shown
  pub hidden : tells (decompose_gadget 44) (8000000 ∷ 475650 ∷ []) (1 ∷ 6 ∷ 11 ∷ 16 ∷ 4 ∷ 9 ∷ 14 ∷ 2 ∷ 7 ∷ 12 ∷ 0 ∷ 5 ∷ 10 ∷ 15 ∷ 3 ∷ 8 ∷ 13 ∷ 1 ∷ 6 ∷ 11 ∷ 16 ∷ 4 ∷ 9 ∷ 14 ∷ 50 ∷ 7 ∷ 8380417 ∷ []) (7 ∷ 7 ∷ []) ≡ record { number = 5; others = 0 ∷ []; used = 0; out = 7 ∷ 7 ∷ [] }
