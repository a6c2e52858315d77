-- Where a helper's packets start, and where all of them are seen.
use Rattle.std.specs.Prelude.{◌≡◌, List, ℕ, ◌+◌, ◌≤◌, ◌<◌, length, get_or}
use Rattle.shifts.specs.Rule.{t}
use Rattle.group.specs.declared.Group.{Group}
use Rattle.lengths.specs.Lengths.{packet_start}

-- the index at which each of the d packets starts
pub record PacketStarts (g : Group) (node : ℕ) (starts : List ℕ) : Type 0 where
  pub size : length starts ≡ 16
  pub packets : (j : ℕ) → j < g.d → get_or starts j 0 ≡ packet_start g node (j + 1)

-- from index front of the piece up to back, all packets have a letter
pub record Middle (g : Group) (lost helper rank size front back long : ℕ) : Type 0 where
  pub order : front ≤ back
  pub begun : t lost g.d ≤ t helper rank + front
  pub going : t helper rank + back ≤ size
  pub ends : back ≤ long
