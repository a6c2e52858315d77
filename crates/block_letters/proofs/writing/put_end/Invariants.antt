-- After each turn one byte more of the end is laid.
use Rattle.std.proofs.Common.{◌+◌, ◌-◌, get_or}
use Rattle.records.specs.Records.{end_record}
use Rattle.letters.specs.Laid.{Laid}
use Rattle.block_letters.proofs.writing.put_end.Given as goal

abbrev pub invariant-loop-i : goal.invariant-loop-i
invariant-loop-i l = Laid l.initial.share l.share l.start (l.start + l.i) (λ p. get_or (end_record l.letters) (p - l.start) 0)
