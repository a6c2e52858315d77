-- k nodes of previews are read: `piece` of each node's packet, put where `entry` says.
use Rattle.std.specs.Prelude.{◌≡◌, List, ℕ, ◌≤◌, length, take, drop}
use Rattle.std.specs.Borrow.{Bor}
use Rattle.group.specs.declared.Group.{Group}
use Rattle.group.specs.Answers.{Answer}
use Rattle.group.specs.Answers.{value_of}
use Rattle.sequences.specs.Lists.{ranked}
use Rattle.preview_numbers.specs.Previews.{preview_file}
use Rattle.preview_pieces.specs.Calls.{PreviewHanded, PreviewPlaced}

-- The collector's buffer, where the node of rank v holds this packet: at sequence v stands what `piece` handed back.
pub record PreviewCollects (g : Group) (ids : List ℕ) (held : ℕ → List ℕ) (buffer : List ℕ) : Type 0 where
  pub lent : ℕ → Bor (List ℕ)
  pub part : ℕ → Bor (List ℕ)
  pub place : ℕ → Answer
  pub long : length buffer ≡ preview_file g
  pub holds : (v : ℕ) → 1 ≤ v → v ≤ g.k → (lent v).now ≡ held v
  pub handed : (v : ℕ) → 1 ≤ v → v ≤ g.k → PreviewHanded g (ranked ids v) v (lent v) (part v)
  pub placed : (v : ℕ) → 1 ≤ v → v ≤ g.k → PreviewPlaced g v (place v)
  pub stands :
      (v : ℕ) → 1 ≤ v → v ≤ g.k → take (length (part v).now) (drop (value_of (place v)) buffer) ≡ (part v).now
