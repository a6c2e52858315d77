-- Which numbers bytes lead to.
use Rattle.std.specs.Prelude.{◌≡◌, true, false, List, [], ◌∷◌, ◌⊎◌, ℕ, ◌+◌, ◌≤◌, ◌<◌, length, get_or}
use Rattle.records.specs.Records.{size_for}
use Rattle.heads.specs.declared.Head.{Head}
use Rattle.kinds.specs.Kinds.{head_size}
use Rattle.heads.specs.Heads.{HeadNumbers, heads}
use Rattle.heads.specs.Steps.Partly.{PartlyIn, head_after}
use Rattle.searching.specs.Steps.Search.{stands_at, farthest}
use Rattle.reaching.specs.Numbers.{number_at}

-- so many bytes can stand in a share of so many letters, of which it has some, with a head of this kind
pub record Within (kind letters at : ℕ) : Type 0 where
  pub some : letters ≡ 0 → ⊥
  pub share : at ≤ size_for (head_size kind) letters

-- of bytes that come at this index of a share of so many letters these first ones stand, whatever its head of this kind
pub record Stepped (kind at letters : ℕ) (ys : List ℕ) (count : ℕ) : Type 0 where
  pub within : count ≤ length ys
  pub near : at + count ≤ farthest
  pub stand : (h : Head) → kind ≡ h.kind → letters ≡ heads.total h → (p : ℕ) → p < count → stands_at h (at + p) (get_or ys p 0) ≡ true

-- a head's numbers where so many bytes can stand
pub record HeadAt (h : Head) (at : ℕ) : Type 0 where
  pub partly : at < head_size h.kind → PartlyIn h at
  pub whole : head_size h.kind ≤ at → HeadNumbers h
  pub share : head_size h.kind ≤ at → at ≤ size_for (head_size h.kind) (heads.total h)

-- some byte can't stand after so many with this head
abbrev pub CanBeWrong : Head → ℕ → Type 0
CanBeWrong h at = (byte : ℕ) × (byte < 256) × (stands_at (head_after h at (byte ∷ [])) at byte ≡ false)

-- bytes lead to these numbers
pub record Led (h : Head) (at wrong : ℕ) : Type 0 where
  pub numbers : HeadAt h at
  pub number : (wrong ≡ 0) ⊎ (wrong ≡ number_at h.kind (heads.total h) at)
  pub byte : (wrong ≡ 0 → ⊥) → CanBeWrong h at
