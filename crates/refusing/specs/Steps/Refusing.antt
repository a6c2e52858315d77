-- How a byte is refused that can't stand where it is.
use Rattle.std.specs.Prelude.{cond, ℕ, ◌+◌, ◌*◌, leb, ltb, eqb}
use Rattle.group.specs.declared.Refusal.{Refusal}
use Rattle.group.specs.declared.Refusal.TheVariants.{Kind, HeadNumber, Filler, Total, AfterEnd}
use Rattle.records.specs.Records.{block_size, blocks, size_for}
use Rattle.records.specs.Steps.Places.{offset_at}

-- how a byte is refused that can't stand at this index of a share of so many letters whose head has this size
unfoldable pub refusal_at : ℕ → ℕ → ℕ → Refusal
refusal_at front letters at =
    cond (leb (size_for front letters) at) AfterEnd
    (cond (eqb (offset_at front at) 0) Kind
    (cond (ltb at front) HeadNumber
    (cond (ltb at (front + blocks letters * block_size)) Filler Total)))
