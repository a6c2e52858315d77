-- `next_tested` meets its contract: behind L there is no test in a head, and in a block letters and zeros are stepped over.
use mathlib.Core.Path.{◌≡◌}
use mathlib.Core.List.{List}
use mathlib.Core.Logic.{◌⊎◌, ⊎_elim}
use Prim.Native.Nat.{ℕ, ◌+◌, ◌-◌, ◌≤◌, ◌<◌}
use native.Mathlib.Omega.{arith}
use Rattle.records.specs.Steps.Places.{stands_in}
use Rattle.skipping.specs.Steps.Skipping.{Skips}
use Rattle.searching.specs.Steps.Search.{StepsOn}
use Rattle.searching.proofs.next_tested.Goals as goal

in_head :
    (xs : List ℕ) (front letters nth offset at end next : ℕ) → nth ≡ 0 → (at < next) × (next ≤ end) × (front ≤ offset + 5 ⊎ (next ≡ at + 1))
    → StepsOn xs front letters nth offset at end next
unfolding stands_in
in_head xs front letters nth offset at end next e w =
    record {
      on = w.0;
      within = w.1;
      stand = λ tests batch p lo hi. rw e (⊎_elim (λ behind. batch (offset + (p - at)) (omega arith)) (λ one. absurd (omega arith)) w.2);
    }

in_block : (xs : List ℕ) (front letters nth offset at end next : ℕ) → Skips xs letters nth offset at end next → StepsOn xs front letters nth offset at end next
in_block xs front letters nth offset at end next w = record { on = w.on; within = w.within; stand = λ tests batch. w.stand tests }

pub returns-then-nth-eq0 : goal.returns-then-nth-eq0
returns-then-nth-eq0 c = in_head _ _ _ _ _ _ _ _ c.if-nth-eq0.true c.next_in_head.ensures

pub returns : goal.returns
returns c = in_block _ _ _ _ _ _ _ _ c.next_tested.ensures
