-- Each turn leaves one low byte out, and goes on with the range of what is left.
use Rattle.std.proofs.Common.{◌≡◌, ℕ, true, ◌+◌, ◌-◌, ◌/◌, ◌%◌, ◌<◌, sym, ap₂, ◌∙◌, arith, get_or}
use Rattle.records.specs.Steps.Ranges.{least_left, most_left, range_tests}
use Rattle.records.proofs.RangeBytes.{lowest_test, later_tests}
use Rattle.records.proofs.ranges.byte_stands.Goals as goal

next :
    (size nth i lo hi rest l h : ℕ) → nth < size → i < nth → l ≡ least_left lo (rest % 256) → h ≡ most_left hi (rest % 256)
    → get_or (range_tests (size - i) lo hi rest) (nth - i) true ≡ get_or (range_tests (size - (i + 1)) l h (rest / 256)) (nth - (i + 1)) true
next size nth i lo hi rest l h a b el eh =
    let s : size - i - 1 ≡ size - (i + 1) = omega arith in
    let n : nth - i - 1 ≡ nth - (i + 1) = omega arith in
    rw (el, eh) (later_tests (size - i) lo hi rest (nth - i) (omega arith) (omega arith) ∙ ap₂ (λ m q. get_or (range_tests m (least_left lo (rest % 256)) (most_left hi (rest % 256)) (rest / 256)) q true) s n)

pub loop-preserved : goal.loop-preserved
loop-preserved c =
    let l = c.loop in (
      c.least_left-lo.ensures.1,
      λ size h. l.invariant.1 size h ∙ next size c.args.nth l.counter l.lo l.hi l.rest _ _ h (omega arith) c.least_left-lo.ensures.0 c.most_left-hi.ensures,
    )

pub returns : goal.returns
returns c =
    let l = c.loop in
    λ size h. c.low_stands.ensures ∙ sym (l.invariant.1 size h ∙ lowest_test (size - l.counter) l.lo l.hi l.rest (c.args.nth - l.counter) (omega arith) (omega arith))
