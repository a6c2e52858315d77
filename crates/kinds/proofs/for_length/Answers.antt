-- `for_length` meets its contract: its test is the definition's own.
use Rattle.kinds.proofs.RowLaws.{short_kind, longer_kind}
use mathlib.Core.Path.{sym}
use Rattle.kinds.proofs.for_length.Goals as goal

pub returns-then-l-le-LONGEST_OF_KIND_ONE : goal.returns-then-l-le-LONGEST_OF_KIND_ONE
returns-then-l-le-LONGEST_OF_KIND_ONE c = sym (short_kind _ c.if-l-le-LONGEST_OF_KIND_ONE.true)

pub returns : goal.returns
returns c = sym (longer_kind _ c.if-l-le-LONGEST_OF_KIND_ONE.false)
