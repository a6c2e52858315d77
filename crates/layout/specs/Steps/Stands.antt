-- The reader's own way: whether each byte can stand where it is.
use Rattle.std.specs.Prelude.{Bool, List, ℕ, get_or}
use Rattle.records.specs.Steps.Places.{stands_in, record_at, offset_at}
use Rattle.layout.specs.Layout.{Layout, size_in, total_in}

-- the byte at index p can stand there, after those before it
unfoldable pub stands : {Head : Type 0} → Layout Head → List ℕ → ℕ → Bool
stands y xs p = stands_in (y.head_tests xs) (total_in y xs) (record_at (size_in y xs) p) (offset_at (size_in y xs) p) (get_or xs p 0)
