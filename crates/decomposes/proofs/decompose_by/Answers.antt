use Rattle.std.proofs.Common.{[], ◌∷◌, ◌≡◌, sym, ap, ap₂, ◌∙◌, ◌<◌, length, take, arith, rules}
use Rattle.numbers.specs.Modulo.{q}
use Rattle.params.proofs.SetLaws.{set_laws}
use Rattle.tape.specs.Tape.{ran, start}
use Rattle.draws.specs.Draws.{run}
use Rattle.shares.specs.Arrays.{Held, shared}
use Rattle.shares.specs.Sharing.{arithmetic}
use Rattle.shares.specs.Refresh.{refresh}
use Rattle.shares.proofs.ArraysLaws.{held_of, gave_is}
use Rattle.gate.specs.Told.{opened_ran, ran_told}
use Rattle.gate.specs.Gadget.{closed}
use Rattle.gate.proofs.GadgetLaws.{held}
use Rattle.parts.specs.Decompose.{high_part, low_shares, decompose}
use Rattle.parts.proofs.DecomposeSteps.{high_below, low_take, low_words}
use Rattle.decomposes.proofs.TellLaws.{parts_ended, told_refused, told_parts, high_ended, high_ran}
use Rattle.decomposes.proofs.decompose_by.Goals as goal
use Rattle.decomposes.proofs.decompose_by.Goals.{After-finish-told, After-high_part, After-low_shares, In-Some}

-- the copied shares
copied : (c : After-high_part) → Held 8 (length c.args.shares.now) q c.copy_in-words.result
copied c = held c.requires (omega arith) c.copy_in-words.ensures

-- the opening on the copy, from the tape's start, is that of the caller's shares
of_caller : (c : After-high_part) →
    let a = c.args in
    run (high_part a.p (take (length a.shares.now) c.copy_in-words.result)) a.tape.now c.start.result ≡ run (high_part a.p a.shares.now) a.tape.now start
of_caller c = let a = c.args in ap₂ (λ xs d. run (high_part a.p xs) a.tape.now d) c.copy_in-words.ensures.first c.start.ensures

opened : (c : In-Some) → run (high_part c.args.p c.args.shares.now) c.args.tape.now start ≡ ran c.in-Some.high c.in-Some.next
opened c = sym (of_caller (goal.at.In-Some c).After-high_part) ∙ sym c.in-Some.ensures

small : (c : In-Some) → c.in-Some.high < c.args.p.delta
small c = high_below _ _ _ _ (omega (arith, (set_laws c.args.p).parts_least)) (opened c)

-- and so are the low shares and their refresh
of_low : (c : After-low_shares) →
    let a = c.args in
    run (refresh (arithmetic q) (take (length a.shares.now) c.low_shares.result)) a.tape.now c.in-Some.next ≡ run (refresh (arithmetic q) (low_shares a.p c.in-Some.high a.shares.now)) a.tape.now c.in-Some.next
of_low c =
    let a = c.args in
    let n = length a.shares.now in
    ap (λ xs. run (refresh (arithmetic q) xs) a.tape.now c.in-Some.next)
    (ap (take n) c.low_shares.ensures ∙ low_take a.p _ n _ (omega (arith, c.requires.least)) ∙ ap (low_shares a.p _) c.copy_in-words.ensures.first)

pub copy_in-words-requires : goal.copy_in-words-requires
copy_in-words-requires c = c.requires.most

pub high_part-requires : goal.high_part-requires
high_part-requires c = held c.requires (omega arith) c.copy_in-words.ensures

pub returns-in_default : goal.returns-in_default
returns-in_default c =
    c.from.ensures c.args.out.now ∙ parts_ended _ _ (high_ended _ _ _ _ (sym (of_caller (goal.at.returns-in_default c).After-high_part) ∙ sym c.in_default.ensures))

pub low_shares-requires : goal.low_shares-requires
low_shares-requires c = (small (goal.at.low_shares-requires c).In-Some, (copied (goal.at.low_shares-requires c).After-high_part).all)

pub refresh-low-requires : goal.refresh-low-requires
refresh-low-requires c =
    let at = goal.at.refresh-low-requires c in
    (search rules, (search rules, held_of (copied at.After-high_part) (rw c.low_shares.ensures (low_words (set_laws c.args.p) (small at.In-Some) (copied at.After-high_part).all))))

pub finish-told-requires : goal.finish-told-requires
finish-told-requires c = let s = c.requires in omega (arith, s.fits, s.most)

-- what is told goes by the low shares and their refresh, of the caller's shares
told : (c : After-finish-told) →
    let a = c.args in
    ran_told 1 (opened_ran (c.in-Some.high ∷ []) (shared (length a.out.now) c.refresh-low.result)) a.out.now ≡ ran_told 1 (run (closed (arithmetic q) (decompose a.p a.shares.now)) a.tape.now start) a.out.now
told c =
    let a = c.args in
    let at = goal.at.After-finish-told c in
    ap (λ x. ran_told 1 x a.out.now)
    (ap (opened_ran (c.in-Some.high ∷ [])) (ap (λ m. shared m c.refresh-low.result) c.requires.fits ∙ gave_is _ _ c.refresh-low.result c.refresh-low.ensures ∙ of_low at.After-low_shares)
    ∙ sym (high_ran _ _ _ _ (opened at.In-Some)))

pub returns-then-told-ne0 : goal.returns-then-told-ne0
returns-then-told-ne0 c =
    c.from-then-told-ne0.ensures _ ∙ told_refused _ _ _ _ c.finish-told.ensures (c.in-Some.high ∷ []) c.if-told-ne0.true ∙ told (goal.at.returns-then-told-ne0 c).After-finish-told

pub returns : goal.returns
returns c = told_parts _ _ _ _ c.finish-told.ensures c.in-Some.high c.if-told-ne0.false ∙ told (goal.at.returns c).After-finish-told
