-- `Column::next_start` meets its contract: a row down is one sequence on above the diagonal, and else a whole column.
use native.Mathlib.Omega.{arith}
use mathlib.Core.Path.{sym, ap, ap₂, ◌∙◌}
use Prim.Native.Nat.{◌+◌, ◌*◌}
use Rattle.matrix.proofs.EntryStarts.{start_beside, start_below, start_at_most}
use Rattle.matrix.proofs.entries.Column.next_start.Goals as goal

pub overflow_add-result : goal.overflow_add-result
overflow_add-result c =
    let s = c in
    omega (arith, start_at_most s.args.self.g s.args.self.in_range s.args.row s.args.self.column (omega arith) (omega arith) (omega arith) (omega arith))

pub returns-then-row-self : goal.returns-then-row-self
returns-then-row-self c =
    let s = c in
    ap (λ m. m + s.args.self.g.l) s.requires.start ∙ sym (start_beside s.args.self.g s.args.self.in_range s.args.row s.args.self.column (omega arith) (omega arith) (omega arith))

pub overflow_add-result-2 : goal.overflow_add-result-2
overflow_add-result-2 c =
    let s = c in
    omega (arith, start_at_most s.args.self.g s.args.self.in_range (s.args.row + 1) s.args.self.column (omega arith) (omega arith) (omega arith) (omega arith), start_below s.args.self.g s.args.self.in_range s.args.row s.args.self.column (omega arith) (omega arith) (omega arith), ap (λ m. m * s.args.self.g.l) c.min.ensures)

pub returns : goal.returns
returns c =
    let s = c in
    ap₂ (λ m w. m + w * s.args.self.g.l) s.requires.start c.min.ensures ∙ sym (start_below s.args.self.g s.args.self.in_range s.args.row s.args.self.column (omega arith) (omega arith) (omega arith))
