-- `starts` meets its contract: after v turns the letters of the first v ranks are counted.
use native.Mathlib.Omega.{arith}
use mathlib.Core.Path.{◌≡◌, refl, sym}
use lib.ListN.{length-set}
use Rattle.agreement.proofs.Handed.{letters_none}
use Rattle.present.proofs.Present.{few_ids, node_here, end_next, end_small, starts_more}
use Rattle.present.proofs.starts.Goals as goal

pub loop-v-init : goal.loop-v-init
loop-v-init c = (refl, sym (letters_none _ _), λ i h. let first : i ≡ 0 = omega arith in rw first (sym (letters_none _ _)))

pub invariant_of-letters : goal.invariant_of-letters
invariant_of-letters c = record { of = node_here _ _ c.requires c.loop-v.v (omega arith) }

pub overflow_add-end : goal.overflow_add-end
overflow_add-end c = omega (arith, end_small _ _ c.requires c.loop-v.v c.loop-v.end _ (omega arith) c.loop-v.invariant.1 c.letters-end.ensures)

pub bounds-starts-v : goal.bounds-starts-v
bounds-starts-v c = omega (arith, few_ids _ _ c.requires, c.requires.group.n-high)

pub loop-v-preserved : goal.loop-v-preserved
loop-v-preserved c =
    let l = c.loop-v in (
      simp length-set l.invariant.0,
      end_next _ _ c.requires l.v l.end _ (omega arith) l.invariant.1 c.letters-end.ensures,
      starts_more _ _ c.requires l.v l.end _ (omega arith) l.invariant.1 c.letters-end.ensures l.starts l.invariant.0 l.invariant.2,
    )

pub returns : goal.returns
returns c =
    let l = c.loop-v in
    record { size = l.invariant.0; before = λ v h. l.invariant.2 v (omega arith) }
