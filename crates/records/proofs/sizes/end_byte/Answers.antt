-- The bytes after the kind are those of T.
use Rattle.std.proofs.Common.{◌∙◌, sym, ap, arith, get_or}
use Rattle.records.specs.Records.{end_record}
use Rattle.records.proofs.Places.{one_past}
use Rattle.records.proofs.sizes.end_byte.Goals as goal

pub returns-in-1-to-4 : goal.returns-in-1-to-4
returns-in-1-to-4 c =
    c.byte_of.ensures 4 (omega arith) ∙ sym (ap (λ offset. get_or (end_record c.args.letters) offset 0) (one_past c.args.offset (λ e. omega arith)))
