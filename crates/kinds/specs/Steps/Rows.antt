-- A kind's row in numbers, as the code has it.
use Rattle.std.specs.Prelude.{Bool, true, ℕ, get_or}
use Rattle.records.specs.Steps.Ranges.{range_tests}
use Rattle.kinds.specs.declared.Limits.{Limits}
use Rattle.kinds.specs.Kinds.{KindRow, row_for_kind}

-- the ranges that a row gives k and d, where n and k are these
abbrev pub limits_in : KindRow → ℕ → ℕ → Limits
limits_in row n k = record { most_k = row.most_k n; least_d = row.least_d n k; most_d = row.mostD n k }

abbrev pub limits_at : ℕ → ℕ → ℕ → Limits
limits_at kind n k = limits_in (row_for_kind kind) n k

-- the test of the byte of L at this place, by the bytes and the range that a row gives it
abbrev pub length_test : KindRow → ℕ → ℕ → Bool
length_test row l nth = get_or (range_tests row.length_bytes row.leastL row.most_l l) nth true
