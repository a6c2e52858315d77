-- A share that arrives: the state that bytes lead to.
use Rattle.std.specs.Prelude.{◌≡◌, Bool, cond, List, ℕ, zero, suc, ltb, length, take}
use Rattle.letters.specs.Lanes.{Bytes}
use Rattle.group.specs.Ranges.{group_of}
use Rattle.layout.specs.Steps.Stands.{stands}
use Rattle.heads.specs.declared.Head.{Head}
use Rattle.heads.specs.Heads.{heads}
use Rattle.reaching.specs.Numbers.{number_at}
use Rattle.arriving.specs.declared.Arriving.{Arriving}

-- from i on, so many at most, up to the first at which it fails
unfoldable pub up_to : (ℕ → Bool) → ℕ → ℕ → ℕ
up_to f i zero = i
up_to f i (suc count) = cond (f i) (up_to f (suc i) count) i

-- How many bytes from the front can stand. It is computed by the search's own test of each byte, which nobody has to believe: that this is the
-- one number that `CanStandTo` allows is `good_exactly` (proofs/GoodBytes.antt).
abbrev pub good_bytes : List ℕ → ℕ
good_bytes xs = up_to (stands heads xs) 0 (length xs)

-- the state with these numbers
abbrev pub state_with : ℕ → ℕ → Head → Arriving
state_with at wrong h =
    record {
      at = at;
      wrong = wrong;
      n = h.group.n;
      k = h.group.k;
      d = h.group.d;
      node = h.node;
      l = h.group.l;
      batch = h.batch;
      kind = h.kind;
    }

-- and the head in it
abbrev pub head_so_far : Arriving → Head
head_so_far s = record { group = group_of s.n s.k s.d s.l; node = s.node; batch = s.batch; kind = s.kind }

-- the state of bytes of which so many can stand: 0 where these are all, and else the number of what is wrong with the next
abbrev pub state_to : List ℕ → ℕ → Arriving
state_to xs q =
    let h = heads.head_in (take q xs) in
    state_with q (cond (ltb q (length xs)) (number_at h.kind (heads.total h) q) 0) h

-- The state that these bytes lead to: how many of them can stand, what is wrong with the next if more have come, and the head's numbers as those that can stand
-- have them.
unfoldable pub state_of : List ℕ → Arriving
state_of xs = state_to xs (good_bytes xs)

-- some bytes lead to this state
abbrev pub Leads : Arriving → Type 0
Leads s = (xs : List ℕ) × Bytes xs × (state_of xs ≡ s)
