-- How each of sixteen nodes stands.
use Rattle.std.specs.Prelude.{cond, List, [], ℕ}
use Rattle.ids.specs.Ids.{among}
use Rattle.sequences.specs.Lists.{run}
use Rattle.odd_report.specs.declared.Standing.{Standing}
use Rattle.odd_report.specs.declared.Standing.TheVariants.{Absent}
use Rattle.odd_report.specs.declared.Node.{Node}

-- node i stands so if it is among the ids, and else is absent
unfoldable pub standing_in : List ℕ → (ℕ → Standing) → ℕ → Standing
unfolding among
standing_in ids standing i = cond (among i ids) (standing i) Absent

-- the sixteen entries
unfoldable pub nodes_where : List ℕ → (ℕ → Standing) → List Node
unfolding run standing_in
nodes_where ids standing = run 16 (λ i. record { standing = standing_in ids standing i })

-- all are absent
abbrev pub all_absent : List Node
all_absent = nodes_where [] (λ i. Absent)
