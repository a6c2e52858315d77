-- `lengths_of` meets its contract: 5 first, then 13, then 6.
use native.Mathlib.Omega.{arith}
use mathlib.Core.Path.{refl, sym, ◌∙◌}
use borrow.Author.Tests.{eq-eqb, ne_eqb, lt-leb}
use Rattle.present.proofs.Present.{few_ids}
use Rattle.odd_checks.specs.Refusals.{lengths_refusal}
use Rattle.odd_checks.proofs.Refusing.{chosen_all, six_is_left}
use Rattle.odd_checks.proofs.lengths_of.Goals as goal

pub starts-starts-requires : goal.starts-starts-requires
starts-starts-requires c = chosen_all _ _ c.requires

pub bounds-starts-count : goal.bounds-starts-count
bounds-starts-count c =
    let s = chosen_all _ _ c.requires in
    omega (arith, few_ids _ _ s, s.group.n-high)

pub returns-then-packets-starts : goal.returns-then-packets-starts
unfolding lengths_refusal
returns-then-packets-starts c = simp (ne_eqb _ _ (λ e. c.if-packets-starts.true (e ∙ sym (c.starts-starts.ensures.before _ (omega arith))))) refl

pub overflow_add-g : goal.overflow_add-g
overflow_add-g c =
    let s = chosen_all _ _ c.requires in
    omega (arith, s.group.k-high, s.group.d_high, s.group.n-high)

pub returns-then-count-g : goal.returns-then-count-g
unfolding lengths_refusal
returns-then-count-g c = simp (eq-eqb _ _ (c.if-packets-starts.false ∙ c.starts-starts.ensures.before _ (omega arith)), lt-leb _ _ c.if-count-g.true) refl

pub invariant_of-file : goal.invariant_of-file
invariant_of-file c = record { in_range = (chosen_all _ _ c.requires).group }

pub returns : goal.returns
returns c = six_is_left _ _ _ _ _ _ (c.if-packets-starts.false ∙ c.starts-starts.ensures.before _ (omega arith)) c.if-count-g.false c.file.ensures c.exact.ensures
