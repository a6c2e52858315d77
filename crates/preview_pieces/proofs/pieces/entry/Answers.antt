-- `pieces::entry` meets its contract: the rank is one of 1..k, or the refusal is passed on.
use mathlib.Core.Path.{refl}
use native.Mathlib.Omega.{arith}
use Rattle.group.proofs.Refusals.{handed_on, stopped, fine, refuses, gives}
use Rattle.preview_pieces.proofs.Called.{preview_entry_of, preview_entry_at_most}
use Rattle.preview_pieces.proofs.pieces.entry.Goals as goal

pub overflow_sub-result : goal.overflow_sub-result
overflow_sub-result c =
    let w = preview_entry_of _ _ (fine _ _ c.in_ok-check_entry.was c.check_entry.ensures) in
    omega (arith, w.1)

pub overflow_mul-result : goal.overflow_mul-result
overflow_mul-result c = omega (arith, preview_entry_at_most _ _ (fine _ _ c.in_ok-check_entry.was c.check_entry.ensures))

pub returns-in_err-check_entry : goal.returns-in_err-check_entry
returns-in_err-check_entry c = rw (handed_on c.from_residual.result _ c.from_residual.ensures.1) (refuses _ _ _ (stopped _ _ _ c.in_err-check_entry.was c.check_entry.ensures))

pub returns : goal.returns
returns c = gives _ _ _ (fine _ _ c.in_ok-check_entry.was c.check_entry.ensures) refl
