-- What the checks let through.
use Rattle.std.specs.Prelude.{◌≡◌, List, ℕ}
use Rattle.group.specs.declared.Group.{Group}
use Rattle.preview_product.specs.Preview.{PreviewReaders}
use Rattle.preview_recovering.specs.Calls.{preview_readers_refusal}

-- Ids that may be read, since the checks refuse nothing.
pub record CheckedReaders (g : Group) (ids : List ℕ) : Type 0 where
  pub readers : PreviewReaders g ids
  pub fine : preview_readers_refusal g ids ≡ 0
