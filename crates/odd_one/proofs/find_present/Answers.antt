-- `find_present` meets its contract: what was found is what the report tells.
use native.Mathlib.Omega.{arith}
use mathlib.Core.Path.{◌≡◌, refl, ap}
use Prim.Native.Nat.{◌≤◌}
use Rattle.std.proofs.Common.{rules}
use Rattle.comparing_nodes.specs.declared.Found.TheVariants.{Several}
use Rattle.comparing_nodes.specs.Steps.Noting.{wrong_nodes}
use Rattle.comparing_nodes.proofs.Noting.{few_wrong}
use Rattle.odd_checks.proofs.Refusing.{chosen_here, room_here, present_here}
use Rattle.odd_one.proofs.Telling.{named_rank, cleared, settled_reports, unsettled_reports}
use Rattle.odd_one.proofs.find_present.Goals.{then-eq, else-eq}
use Rattle.odd_one.proofs.find_present.Goals as goal

pub starts-starts-requires : goal.starts-starts-requires
starts-starts-requires c = chosen_here _ _ _ _ c.requires

pub invariant_of-nodes : goal.invariant_of-nodes
invariant_of-nodes c = record { present = present_here _ _ _ _ c.requires _ refl; placed = c.starts-starts.ensures }

pub search-found-requires : goal.search-found-requires
search-found-requires c = room_here _ _ _ _ c.requires

pub told-requires : goal.told-requires
told-requires c = named_rank _ _ _ _ _ c.search-found.ensures.found

pub returns : goal.returns
returns c =
    let r = c.search-found in
    elim c.if-eq.branch [
      | then-eq w ↦
          (let same : r.result ≡ Several = search rules in
          let many : 2 ≤ wrong_nodes r.result = (let n = ap wrong_nodes same in omega arith) in
          rw w.file-is (unsettled_reports _ _ _ _ c.requires r.result _ c.told.ensures _ _ many r.ensures.found
          (cleared _ _ _ r.ensures.length w.fill.ensures.len (w.fill.ensures.after (λ y e. e)))))
      | else-eq w ↦
          (let other : r.result ≡ Several → ⊥ = search rules in
          rw w.file-is (settled_reports _ _ _ _ c.requires r.result _ c.told.ensures _ (few_wrong r.result other) r.ensures.found))
    ]
