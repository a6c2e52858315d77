-- `compare_all` meets its contract: the first v ranks are compared.
use native.Mathlib.Omega.{arith}
use mathlib.Core.Path.{◌≡◌, ap}
use Rattle.std.proofs.Common.{rules}
use Rattle.comparing_nodes.specs.declared.Found.TheVariants.{Several}
use Rattle.agreement.proofs.Comparing.{compared_none}
use Rattle.comparing_nodes.specs.Steps.Noting.{wrong_nodes}
use Rattle.comparing_nodes.proofs.Noting.{few_wrong, two_suffice, all_compared}
use Rattle.comparing_nodes.proofs.compare_all.Goals as goal

pub loop-v-init : goal.loop-v-init
loop-v-init c = (omega arith, compared_none _ _ _ _)

pub returns-then-eq : goal.returns-then-eq
returns-then-eq c =
    let r = c.compare_next-found in
    let same : r.result ≡ Several = search rules in
    (r.ensures.0, two_suffice _ _ _ _ _ _ _ _ _ (let n = ap wrong_nodes same in omega arith) r.ensures.0 (omega arith) r.ensures.1)

pub loop-v-preserved : goal.loop-v-preserved
loop-v-preserved c =
    let r = c.compare_next-found in
    let other : r.result ≡ Several → ⊥ = search rules in
    (few_wrong r.result other, r.ensures.1)

pub returns : goal.returns
returns c =
    let l = c.loop-v in
    (omega arith, all_compared _ _ _ _ l.v _ _ _ _ (omega arith) l.invariant.1)
