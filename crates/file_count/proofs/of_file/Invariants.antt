-- `of_file` meets its contract: after every turn one column more is in the sum. The first has no terms.
use mathlib.Core.Path.{◌≡◌}
use Prim.Native.Nat.{◌+◌, ◌*◌, ◌≤◌}
use Rattle.letters.specs.Algebra.{counts, sum}
use Rattle.file_count.specs.Steps.Terms.{column_terms, entry_most}
use Rattle.file_count.proofs.of_file.Given as goal

abbrev pub invariant-loop-u : goal.invariant-loop-u
invariant-loop-u l = (l.count ≡ sum counts l.u (λ x. column_terms l.senders.g l.senders.ids.now l.file x)) × (l.count ≤ l.u * (16 * (entry_most + entry_most)))
