-- `of_column` meets its contract: after every turn one entry more is in the sum.
use mathlib.Core.Path.{◌≡◌}
use Prim.Native.Nat.{◌+◌, ◌*◌, ◌≤◌}
use Rattle.letters.specs.Algebra.{counts, sum}
use Rattle.file_count.specs.Steps.Terms.{solving_terms, taking_terms, entry_most}
use Rattle.file_count.proofs.of_column.Given as goal

abbrev pub invariant-loop-v : goal.invariant-loop-v
invariant-loop-v l = (l.count ≡ sum counts l.v (λ y. solving_terms l.senders.g l.senders.ids.now l.file l.u y + taking_terms l.senders.g l.senders.ids.now l.file l.u y)) × (l.count ≤ l.v * (entry_most + entry_most))
