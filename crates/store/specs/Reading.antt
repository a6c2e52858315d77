-- k nodes are read: `piece` of each node's packets, put where `entry` says.
use Rattle.std.specs.Prelude.{◌≡◌, List, ℕ, ◌≤◌, length, take, drop}
use Rattle.std.specs.Borrow.{Bor}
use Rattle.group.specs.declared.Group.{Group}
use Rattle.group.specs.Answers.{Answer}
use Rattle.group.specs.Answers.{value_of}
use Rattle.lengths.specs.Lengths.{file_letters}
use Rattle.sequences.specs.Lists.{ranked}
use Rattle.sending.specs.Calls.{Handed, Placed}

-- The collector's buffer, where the node of rank v holds these packets: at each entry (v,u) stands what `piece` handed back.
pub record Collects (g : Group) (ids : List ℕ) (held : ℕ → List ℕ) (buffer : List ℕ) : Type 0 where
  pub lent : ℕ → Bor (List ℕ)
  pub part : ℕ → ℕ → Bor (List ℕ)
  pub place : ℕ → ℕ → Answer
  pub long : length buffer ≡ file_letters g
  pub holds : (v : ℕ) → 1 ≤ v → v ≤ g.k → (lent v).now ≡ held v
  pub handed : (v u : ℕ) → 1 ≤ v → v ≤ g.k → v ≤ u → u ≤ g.d → Handed g (ranked ids v) v u (lent v) (part v u)
  pub placed : (v u : ℕ) → 1 ≤ v → v ≤ g.k → v ≤ u → u ≤ g.d → Placed g v u (place v u)
  pub stands :
      (v u : ℕ) → 1 ≤ v → v ≤ g.k → v ≤ u → u ≤ g.d
      → take (length (part v u).now) (drop (value_of (place v u)) buffer) ≡ (part v u).now
