-- `search::search` meets its contract: the tries without the ranks after `without` all failed.
use native.Mathlib.Omega.{arith}
use mathlib.Core.Path.{◌≡◌, ap, refl, subst}
use Prim.Native.Nat.{◌≤◌}
use Rattle.std.proofs.Common.{rules}
use Rattle.comparing_nodes.specs.declared.Found.TheVariants.{Several}
use Rattle.comparing_nodes.proofs.Noting.{few_wrong}
use Rattle.comparing_nodes.specs.Steps.Noting.{wrong_nodes}
use Rattle.trying.proofs.Searching.{AllFailed, settles, none_tried, failed_too, none_settles}
use Rattle.trying.proofs.search.search.Goals as goal

pub loop-without-init : goal.loop-without-init
loop-without-init c = (c.requires, λ here. none_tried _ _ _ here)

pub attempt-found-requires : goal.attempt-found-requires
attempt-found-requires c = c.loop-without.invariant.0

pub returns-then-ne : goal.returns-then-ne
returns-then-ne c =
    let r = c.attempt-found in
    let other : r.result ≡ Several → ⊥ = search rules in
    record { length = r.ensures.1.long; found = settles _ _ _ c.args.nodes.now.present c.loop-without.without _ _ _ _ (few_wrong r.result other) r.ensures.1 r.ensures.2 }

pub loop-without-preserved : goal.loop-without-preserved
loop-without-preserved c =
    let r = c.attempt-found in
    let same : r.result ≡ Several = search rules in
    let many : 2 ≤ wrong_nodes r.result = (let n = ap wrong_nodes same in omega arith) in
    (r.ensures.1.long, λ here. failed_too _ _ _ here c.loop-without.without _ _ _ _ (omega arith) many r.ensures.0 r.ensures.1 r.ensures.2 (c.loop-without.invariant.1 here))

pub returns : goal.returns
returns c =
    let l = c.loop-without in
    let none_left : l.without ≡ 0 = omega arith in
    record { length = l.invariant.0; found = none_settles _ _ _ c.args.nodes.now.present l.file _ _ _ refl (subst (AllFailed _ _ _ c.args.nodes.now.present) none_left (l.invariant.1 c.args.nodes.now.present)) }
