-- Both refreshes meet the three demands, and their answers are unique.
use mathlib.Core.Path.{refl}
use mathlib.Core.List.{List}
use Prim.Native.Nat.{ℕ}
use native.Mathlib.Omega.{arith}
use Rattle.draws.specs.Draws.{bind}
use Rattle.draws.proofs.PlanLaws.{gives_done}
use Rattle.gate.specs.Told.{stands_for}
use Rattle.gate.specs.Gadget.{silent_steps, tells}
use Rattle.checks.proofs.CheckLaws.{inside_yes, inside_out}
use Rattle.demands.specs.Gadgets.{refresh_gadget, boolean_gadget}
use Rattle.demands.specs.Demands.{Demands}
use Rattle.demands.specs.Unique.{Unique}
use Rattle.demands.specs.Refresh.{refresh_claim, boolean_claim}
use Rattle.demands.proofs.Answers.{width_range}
use Rattle.demands.proofs.Steps.{Steps}
use Rattle.demands.proofs.Demands.{demands}
use Rattle.demands.proofs.Unique.{unique}

refresh_steps : (M : ℕ) → Steps (refresh_claim M)
unfolding refresh_gadget silent_steps bind
refresh_steps M =
    record {
      range =
          record {
            tested = record { in_range = inside_out 2 4294967295 M; range_in = λ r. inside_yes 2 4294967295 M r.0 r.1 };
            positive = λ r. omega (arith, r.0);
            word = λ r. omega (arith, r.1);
          };
      has_fields = refl;
      opens_fields = λ x. refl;
      give = λ r n least most xs w. gives_done (record { opened = refl; words = w; recombined = refl });
    }

boolean_steps : (k : ℕ) → Steps (boolean_claim k)
unfolding boolean_gadget silent_steps bind
boolean_steps k =
    record {
      range = width_range k;
      has_fields = refl;
      opens_fields = λ x. refl;
      give = λ r n least most xs w. gives_done (record { opened = refl; words = w; recombined = refl });
    }

pub refresh_demands : (M : ℕ) → Demands (refresh_claim M)
refresh_demands M = demands (refresh_steps M)

pub boolean_demands : (k : ℕ) → Demands (boolean_claim k)
boolean_demands k = demands (boolean_steps k)

pub refresh_unique : (M : ℕ) (shares tape out : List ℕ) → Unique stands_for (tells (refresh_gadget M) shares tape out)
refresh_unique M = unique (refresh_gadget M)

pub boolean_unique : (k : ℕ) (shares tape out : List ℕ) → Unique stands_for (tells (boolean_gadget k) shares tape out)
boolean_unique k = unique (boolean_gadget k)
