-- `reaching::stepped` meets its contract: letters stand, and so do full blocks with their kind, which begin at a record's start or behind a full
-- block's letters.
use mathlib.Core.Path.{ap, ◌∙◌}
use native.Mathlib.Omega.{arith}
use Rattle.records.specs.Steps.Places.{record_at, offset_at}
use Rattle.reaching.proofs.Stepping.{past_first, from_start, all_letters, past_letters}
use Rattle.reaching.proofs.stepped.Goals as goal

pub overflow_sub-nth : goal.overflow_sub-nth
overflow_sub-nth c =
    let s = c in
    let f = c.head_size-front.ensures in
    past_first s.args.bytes.now s.args.kind s.args.letters _ _ s.args.at s.requires.0 s.requires.1 s.requires.2 (c.record_at-nth.ensures ∙ ap (λ n. record_at n s.args.at) f) (c.offset_at-offset.ensures ∙ ap (λ n. offset_at n s.args.at) f)

pub returns-then-offset-eq0 : goal.returns-then-offset-eq0
returns-then-offset-eq0 c =
    let s = c in
    let f = c.head_size-front.ensures in
    from_start s.args.bytes.now s.args.kind s.args.letters _ _ s.args.at s.requires.0 s.requires.1 s.requires.2 (c.record_at-nth.ensures ∙ ap (λ n. record_at n s.args.at) f) (c.offset_at-offset.ensures ∙ ap (λ n. offset_at n s.args.at) f) c.if-offset-eq0.true _ c.past_full_blocks.ensures

pub returns-then-bytes-left : goal.returns-then-bytes-left
returns-then-bytes-left c =
    let s = c in
    let f = c.head_size-front.ensures in
    all_letters s.args.bytes.now s.args.kind s.args.letters _ _ s.args.at s.requires.0 s.requires.1 s.requires.2 (c.record_at-nth.ensures ∙ ap (λ n. record_at n s.args.at) f) (c.offset_at-offset.ensures ∙ ap (λ n. offset_at n s.args.at) f) c.if-offset-eq0.false _ c.letters_after-left.ensures c.if-bytes-left.true

pub returns : goal.returns
returns c =
    let s = c in
    let f = c.head_size-front.ensures in
    past_letters s.args.bytes.now s.args.kind s.args.letters _ _ s.args.at s.requires.0 s.requires.1 s.requires.2 (c.record_at-nth.ensures ∙ ap (λ n. record_at n s.args.at) f) (c.offset_at-offset.ensures ∙ ap (λ n. offset_at n s.args.at) f) c.if-offset-eq0.false _ c.letters_after-left.ensures (omega arith) _ c.past_full_blocks-2.ensures
