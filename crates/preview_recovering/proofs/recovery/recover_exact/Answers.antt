-- `recovery::recover_exact` meets its contract: the solver has the whole buffer.
use native.Mathlib.Omega.{arith}
use mathlib.Core.Path.{sym, ◌∙◌}
use borrow.Author.Tests.{eq-eqb, ne_eqb}
use Rattle.preview_numbers.specs.Previews.{preview_file}
use Rattle.sequences.proofs.Charted.{solvable}
use Rattle.preview_product.proofs.Ranks.{preview_known, preview_ranks}
use Rattle.preview_recovering.specs.Calls.{preview_recover_refusal}
use Rattle.preview_recovering.proofs.RecoverCalls.{preview_recover_refused, preview_recover_fine}
use Rattle.preview_recovering.proofs.recovery.recover_exact.Goals as goal

pub file-wanted-requires : goal.file-wanted-requires
file-wanted-requires c = c.requires.readers.group

pub returns-then-buffer-wanted : goal.returns-then-buffer-wanted
unfolding preview_recover_refusal
returns-then-buffer-wanted c =
    let s = c in
    preview_recover_refused _ _ _ _ (sym (simp (s.requires.fine, ne_eqb _ _ (λ e. c.if-buffer-wanted.true (e ∙ sym c.file-wanted.ensures)))))

pub of-rows-requires : goal.of-rows-requires
of-rows-requires c = preview_known _ _ c.requires.readers

pub solve_counted-requires : goal.solve_counted-requires
unfolding preview_file
solve_counted-requires c =
    let s = c in record { system = solvable _ _ _ c.of-rows.ensures _ (preview_ranks _ _ s.requires.readers) _ (omega arith) (omega arith) _ (omega arith) (omega arith); letters = c.if-buffer-wanted.false ∙ c.file-wanted.ensures }

pub returns : goal.returns
unfolding preview_recover_refusal
returns c =
    let s = c in
    let long = c.if-buffer-wanted.false ∙ c.file-wanted.ensures in
    preview_recover_fine _ _ _ _ _ _ s.requires long (simp (s.requires.fine, eq-eqb _ _ long)) c.of-rows.ensures c.solve_counted.ensures
