-- `writing::fitting` meets its contract: a refusal is passed on, and where there is none the lengths are exact.
use mathlib.Core.Path.{◌≡◌, sym, ap, ap₂, ◌∙◌}
use Prim.Native.Nat.{ℕ}
use native.Mathlib.Omega.{arith}
use Rattle.group.specs.Answers.{first}
use Rattle.group.specs.Ranges.{input_refusal, output_refusal}
use Rattle.group.proofs.Refusals.{handed_on, exact_lengths, stopped, fine}
use Rattle.records.specs.Records.{size_for}
use Rattle.kinds.specs.Kinds.{row_for_kind, head_size}
use Rattle.kinds.proofs.RowLaws.{size_small, total_fine}
use Rattle.heads.specs.declared.Head.{Head}
use Rattle.heads.specs.Heads.{head_total}
use Rattle.heads.proofs.HeadLaws.{fine_numbers, total_small}
use Rattle.heads.proofs.FirstBytes.{fits_in_range}
use Rattle.share.specs.Calls.{kind_bytes, head_letters, head_bytes, fit_refusal}
use Rattle.share.proofs.Written.{write_refused, write_done}
use Rattle.share.proofs.writing.fitting.Goals as goal

-- the share's letters and its bytes, by a head in range
letters_of_lem : (h : Head) (letters : ℕ) → (row_for_kind h.kind).refusal h.group h.node ≡ 0 → letters ≡ head_total h → letters ≡ head_letters h
letters_of_lem h letters none el = el ∙ total_fine h.kind h.group h.node none

bytes :
    (h : Head) (letters front size : ℕ) → (row_for_kind h.kind).refusal h.group h.node ≡ 0 → letters ≡ head_total h → front ≡ head_size h.kind
    → size ≡ size_for front letters → size ≡ head_bytes h
unfolding kind_bytes
bytes h letters front size none el ef es = es ∙ ap₂ size_for ef (letters_of_lem h letters none el)

-- the check's number, by what the lengths are
checked :
    (h : Head) (k letters front size packets share : ℕ) → (row_for_kind h.kind).refusal h.group h.node ≡ 0 → letters ≡ head_total h → front ≡ head_size h.kind
    → size ≡ size_for front letters → k ≡ first (input_refusal letters packets) (output_refusal size share) → k ≡ fit_refusal h packets share
unfolding fit_refusal
checked h k letters front size packets share none el ef es e =
    e ∙ ap₂ (λ l b. first (input_refusal l packets) (output_refusal b share)) (letters_of_lem h letters none el) (bytes h letters front size none el ef es)

-- lengths that aren't refused are those of the letters and of the share
exact :
    (h : Head) (packets share : ℕ) → fit_refusal h packets share ≡ 0
    → (packets ≡ head_letters h) × (share ≡ size_for (head_size h.kind) packets)
unfolding fit_refusal kind_bytes
exact h packets share e =
    let w = exact_lengths packets (head_letters h) share (head_bytes h) e in
    (w.0, w.1 ∙ ap (size_for (head_size h.kind)) (sym w.0))

pub size_for-bytes-requires : goal.size_for-bytes-requires
size_for-bytes-requires c =
    let s = c in
    (omega (arith, c.head_size.ensures, size_small s.args.head.kind), omega (arith, c.total-letters.ensures, total_small s.args.head))

pub fill-requires : goal.fill-requires
fill-requires c =
    let s = c in
    let k = c in
    let e = exact s.args.head _ _ (fine _ _ c.in_ok-lengths.was (checked s.args.head _ _ _ _ _ _ s.requires k.total-letters.ensures k.head_size.ensures k.size_for-bytes.ensures k.lengths.ensures)) in
    (omega (arith, e.0, total_small s.args.head, total_fine s.args.head.kind s.args.head.group s.args.head.node s.requires), e.1)

pub invariant_of-fill : goal.invariant_of-fill
invariant_of-fill c = record { fits = fits_in_range c.args.head (fine_numbers c.args.head (omega arith) c.requires) }

pub returns-in_err-lengths : goal.returns-in_err-lengths
returns-in_err-lengths c =
    rw (handed_on c.from_residual.result _ c.from_residual.ensures.1) (let s = c in
    let k = c in
    write_refused _ _ _ _ _
    (stopped _ _ _ c.in_err-lengths.was (checked s.args.head _ _ _ _ _ _ s.requires k.total-letters.ensures k.head_size.ensures k.size_for-bytes.ensures k.lengths.ensures)))

pub returns : goal.returns
returns c =
    let m = c in
    let s = m in
    let k = m in
    write_done _ _ _ _ _ _
    (fine _ _ m.in_ok-lengths.was (checked s.args.head _ _ _ _ _ _ s.requires k.total-letters.ensures k.head_size.ensures k.size_for-bytes.ensures k.lengths.ensures))
    (bytes s.args.head _ _ _ s.requires k.total-letters.ensures k.head_size.ensures k.size_for-bytes.ensures) c.fill.ensures
