-- `coming` meets its contract: malformed as the state is judged, and else the bytes that lead here tell it.
use mathlib.Core.Path.{sym, ap, subst, ◌∙◌}
use native.Mathlib.Omega.{arith}
use Rattle.records.specs.Records.{size_for}
use Rattle.kinds.specs.Kinds.{head_size}
use Rattle.kinds.proofs.RowLaws.{size_small}
use Rattle.heads.specs.declared.Head.{Head}
use Rattle.heads.specs.Heads.{heads}
use Rattle.heads.proofs.HeadLaws.{total_small}
use Rattle.group.specs.Answers.{Outcome}
use Rattle.group.proofs.Refusals.{handed_on}
use Rattle.arriving.specs.Calls.{Announces}
use Rattle.arriving.proofs.Led.{batch_led}
use Rattle.arriving.proofs.Telling.{announces_early, announces_known}
use Rattle.arriving.proofs.Arriving.coming.Goals as goal

pub returns-in_err-all_stand : goal.returns-in_err-all_stand
returns-in_err-all_stand c = rw (handed_on c.from_residual.result _ c.from_residual.ensures.1) c.in_err-all_stand.ensures

pub returns-then-self-head_size : goal.returns-then-self-head_size
returns-then-self-head_size c =
    let w = c.in_ok-all_stand.ensures in
    announces_early _ w.0 w.1 (omega (arith, c.if-self-head_size.true, c.head_size.ensures))

pub head_so_far-head-requires : goal.head_so_far-head-requires
head_so_far-head-requires c = batch_led _ c.in_ok-all_stand.ensures.0

pub size_for-bytes-requires : goal.size_for-bytes-requires
size_for-bytes-requires c =
    let h = c.head_so_far-head.result in
    (omega (arith, c.head_size-front.ensures, size_small h.kind), omega (arith, c.total.ensures, total_small h))

pub returns : goal.returns
returns c =
    let s = c.args.self in
    let w = c.in_ok-all_stand.ensures in
    let head = c.head_so_far-head.ensures in
    let front = c.head_size-front.ensures ∙ ap (λ (h : Head). head_size h.kind) head in
    subst (λ h. Announces s (Outcome.fine (h, c.size_for-bytes.result))) (sym head)
    (announces_known s w.0 w.1 (omega (arith, c.if-self-head_size.false, c.head_size.ensures)) _ _ (c.total.ensures ∙ ap heads.total head) (c.size_for-bytes.ensures ∙ ap (λ f. size_for f c.total.result) front))
