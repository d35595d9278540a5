-- Demand 3, of every gadget that turns shares into shares.
use mathlib.Core.Path.{◌≡◌, refl, sym, ap, subst, ◌∙◌}
use mathlib.Core.Bool.{Bool}
use mathlib.Core.List.{List, ◌++◌}
use Prim.Native.Nat.{ℕ, ◌-◌, ◌^◌, ◌<◌}
use native.Mathlib.Omega.{arith}
use lib.ListN.{length, length-replicate}
use Rattle.numbers.specs.Bits.{bits_of}
use Rattle.numbers.specs.Lists.{Words}
use Rattle.tape.specs.Tape.{ran, start}
use Rattle.draws.specs.Draws.{Draws, done, bind}
use Rattle.draws.specs.Plan.{places}
use Rattle.draws.specs.Anew.{marked, anew, ExactlyOne}
use Rattle.draws.proofs.Outcomes.{Gives, feed, Fits, merged, Marks}
use Rattle.draws.proofs.PlanLaws.{Reads, reads_fit, planned_parts, always_run, always_feed, feed_bind, feed_map, FitBoth, fits_split}
use Rattle.draws.proofs.MarksLaws.{marked-after, marked-length, merged_after}
use Rattle.draws.proofs.AnewLaws.{anew-run, anew_is, exactly_as, one_anew, reads_length}
use Rattle.hits.proofs.HitLaws.{set_below}
use Rattle.shares.specs.Sharing.{Sharing, bound, value}
use Rattle.shares.specs.Refresh.{refresh, refresh_plan}
use Rattle.shares.specs.Closing.{closing_marks, SameBut}
use Rattle.shares.proofs.SettingLaws.{closing_marks_lem, closing_plan, refresh_closes}
use Rattle.gate.specs.Told.{Told, Outcome}
use Rattle.gate.specs.Gadget.{closed, call, tells}
use Rattle.demands.specs.Call.{Valid}
use Rattle.demands.specs.Claim.{Claim, Claimed, plan, on_shares}
use Rattle.demands.specs.Settings.{SameTold, closing_draws, OneSetting, Settings}
use Rattle.demands.proofs.Steps.{Steps, closed_give, on_shares_lem}
use Rattle.demands.proofs.Runs.{tells_success, Succeeded, succeeded, success}

-- steps and then the closing refresh, fed with the draws r of the steps and others for the refresh
closed_feed : (s : Sharing) {P : Outcome → Type 0} {d : Draws Outcome} {ms : List ℕ} → Gives P d ms → (r : List ℕ) → Fits ms r → (us : List ℕ) →
    feed (closed s d) (r ++ us) ≡ record { others = (feed d r).others; shares = feed (refresh s (feed d r).shares) us }
unfolding closed
closed_feed s {d = d} g r f us =
    feed_bind g.plan (λ o. bind (refresh s o.shares) (λ zs. done (record { others = o.others; shares = zs }))) r us f
    ∙ feed_map (refresh s (feed d r).shares) (λ zs. record { others = (feed d r).others; shares = zs }) us

module _ {c : Claim} (s : Steps c) (shares tape out : List ℕ) where
  n : ℕ
  n = length shares

  abbrev program : List ℕ → Draws Outcome
  program xs = closed c.gadget.output (c.gadget.steps xs)

  valid_gives : {xs slice : List ℕ} → Valid (on_shares c xs slice) → Gives (Claimed c (length xs) xs) (program xs) (plan c (length xs))
  valid_gives {xs} v = closed_give s v.range (length xs) v.count.0 v.count.1 xs v.below

  M : ℕ
  M = bound c.gadget.output

  marks : List Bool
  marks = closing_draws c n

  -- the tape with the closing draws set anew to us
  closing_anew : List ℕ → List ℕ
  closing_anew us = anew marks M (plan c n) tape start us

  -- the closing draws are n - 1 draws below M
  are_closing : Marks marks (plan c n) (n - 1) M
  unfolding marks closing_draws plan n M
  are_closing =
      marked-after (c.draws (length shares)) (c.draws (length shares)) (refresh_plan c.gadget.output (length shares)) (closing_marks (length shares)) refl
      ∙ closing_marks_lem c.gadget.output (length shares)

  module _ (x : Succeeded (call c.gadget shares out) tape) (second slice : List ℕ) (v : Valid (on_shares c second slice)) (same : length second ≡ length shares)
      (opens : c.opens (value c.gadget.input second) ≡ c.opens (value c.gadget.input shares)) (j : ℕ) (hj : j < length shares) where
    first_valid : Valid (on_shares c shares out)
    first_valid = (on_shares_lem s shares out).valid x.passes

    gx : Gives (Claimed c n shares) (program shares) (plan c n)
    unfolding n
    gx = valid_gives first_valid

    gy : Gives (Claimed c n second) (program second) (plan c n)
    unfolding n
    gy = subst (λ (k : ℕ). Gives (Claimed c k second) (program second) (plan c k)) same (valid_gives v)

    inner : Gives (Claimed c n second) (c.gadget.steps second) (c.draws n)
    unfolding n
    inner =
        s.give v.range (length shares) first_valid.count.0 first_valid.count.1 second
        (subst (λ (k : ℕ). Words k (bound c.gadget.input) second) same v.below)

    shown : Claimed c n shares x.outcome
    shown = always_run gx.always tape start x.ran_to

    module _ {rs : List ℕ} (y : Reads tape (plan c n) start rs (places (plan c n) tape start) x.place) (f : FitBoth (c.draws n) (refresh_plan c.gadget.output n) rs) where
      -- the second input's steps, on the first's draws
      o : Outcome
      o = feed (c.gadget.steps second) f.fst

      as_claimed : Claimed c n second o
      unfolding o
      as_claimed = always_feed inner.plan inner.always f.fst f.fit_fst

      -- what the second input gives on the tape with the closing draws set anew to us
      given : List ℕ → Outcome
      given us = record { others = o.others; shares = feed (refresh c.gadget.output o.shares) (merged (closing_marks n) f.snd us) }

      told_on : (us : List ℕ) → Words (n - 1) M us → tells c.gadget second (closing_anew us) slice ≡ success (given us) x.place
      unfolding closing_anew given o marks closing_draws M tells
      told_on us w =
          tells_success (call c.gadget second slice) (closing_anew us) ((on_shares_lem s second slice).passes v)
          (anew-run marks (n - 1) M y are_closing us (s.range.positive v.range) (s.range.word v.range) w (program second) gy.plan
          ∙ ap (λ z. ran z x.place)
          (ap (λ (l : List ℕ). feed (program second) (merged marks l us)) f.all
          ∙ ap (feed (program second)) (merged_after (closing_marks n) f.snd us f.fit_fst)
          ∙ closed_feed c.gadget.output inner f.fst f.fit_fst (merged (closing_marks n) f.snd us)))

      works : (us : List ℕ) → SameBut n j (given us).shares x.outcome.shares → SameTold n j (success (given us) x.place) (success x.outcome x.place)
      unfolding given
      works us t = record { succeeds = refl; shares = t; others = as_claimed.opened ∙ opens ∙ sym shown.opened; used = refl }

      one : ExactlyOne (n - 1) M (λ us. SameTold n j (tells c.gadget second (closing_anew us) slice) (tells c.gadget shares tape out))
      unfolding given M n tells
      one =
          exactly_as _
          (λ us w t. subst (λ (a : Told). SameTold n j a (tells c.gadget shares tape out)) (sym (told_on us w))
          (subst (SameTold n j (success (given us) x.place)) (sym x.told_so) (works us t)))
          (λ us w t. subst (λ (a : Told). SameBut n j a.out x.outcome.shares) (told_on us w)
          (subst (λ (a : Told). SameBut n j (tells c.gadget second (closing_anew us) slice).out a.out) x.told_so t.shares))
          (refresh_closes c.gadget.output (s.range.positive v.range) n o.shares x.outcome.shares as_claimed.words shown.words j hj f.snd f.fit_snd)

    -- a setting with which the second input gives the same count of words has only numbers below M
    below : {rs : List ℕ} → Reads tape (plan c n) start rs (places (plan c n) tape start) x.place → (us : List ℕ) → Words (n - 1) (2 ^ bits_of M) us →
        SameTold n j (tells c.gadget second (closing_anew us) slice) (tells c.gadget shares tape out) → Words (n - 1) M us
    unfolding closing_anew marks closing_draws plan M tells
    below {rs} y us w t =
        let z = succeeded (call c.gadget second slice) (closing_anew us) t.succeeds in
        let (os, r, _) = planned_parts gy.plan (closing_anew us) start z.ran_to in
        let used : z.place.at ≡ x.place.at =
        sym (ap (λ (a : Told). a.used) z.told_so) ∙ t.used ∙ ap (λ (a : Told). a.used) x.told_so in
        let (k, e) = closing_plan c.gadget.output n in
        let size : length (marked marks (places (plan c n) tape start)) ≡ length us =
        marked-length marks (places (plan c n) tape start) (plan c n) (reads_length y) ∙ ap length are_closing ∙ length-replicate (n - 1) M ∙ sym w.size in
        subst (λ (m : ℕ). Words m M us) w.size
        (set_below (c.draws n) k M (closing_marks n) (subst (λ (l : List ℕ). Reads tape (c.draws n ++ l) start rs (places (plan c n) tape start) x.place) e y)
        (omega arith) (anew_is marks (n - 1) M y are_closing us w) size
        (subst (λ (l : List ℕ). Reads (closing_anew us) (c.draws n ++ l) start os (places (plan c n) (closing_anew us) start) z.place) e r) used)

    one_setting : OneSetting c shares tape out second slice j
    unfolding closing_anew n M marks plan
    one_setting =
        let (rs, y, e) = planned_parts gx.plan tape start x.ran_to in
        one_anew marks (n - 1) M y are_closing (s.range.positive v.range) (s.range.word v.range) (below y) (one y (fits_split (c.draws n) (reads_fit y)))

  pub settings : Settings c shares tape out
  unfolding tells
  settings e second slice v same opens j h = one_setting (succeeded (call c.gadget shares out) tape e) second slice v same opens j h
