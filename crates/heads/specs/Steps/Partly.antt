-- A head of which the first bytes are in, and no more: its numbers are those of these bytes with zeros after them.
use Rattle.std.specs.Prelude.{◌≡◌, Bool, true, cond, List, ◌++◌, ℕ, ◌^◌, ◌<◌, ltb, eqb, get_or, take}
use Rattle.kinds.specs.Kinds.{row_for_kind, head_size}
use Rattle.heads.specs.declared.Head.{Head}
use Rattle.heads.specs.Heads.{head_record, head_in, head_tests}

-- every number has room in its bytes
pub record HeadFits (h : Head) : Type 0 where
  pub kind : h.kind < 256
  pub n : h.group.n < 256
  pub k : h.group.k < 256
  pub d : h.group.d < 256
  pub node : h.node < 256
  pub l : h.group.l < 256 ^ (row_for_kind h.kind).length_bytes
  pub batch : h.batch < 256 ^ 4

-- the byte at an offset is as it is where so many bytes are in: it passes its test, or isn't in yet and is zero
abbrev pub partly_at : Head → ℕ → ℕ → Bool
partly_at h at offset = cond (ltb offset at) (get_or (head_tests h) offset true) (eqb (get_or (head_record h) offset 0) 0)

-- no number is in
pub record Blank (h : Head) : Type 0 where
  pub kind : h.kind ≡ 0
  pub n : h.group.n ≡ 0
  pub k : h.group.k ≡ 0
  pub d : h.group.d ≡ 0
  pub node : h.node ≡ 0
  pub l : h.group.l ≡ 0
  pub batch : h.batch ≡ 0

-- bytes that can stand, so many, tell these numbers
pub record PartlyIn (h : Head) (at : ℕ) : Type 0 where
  pub fits : HeadFits h
  pub each : (offset : ℕ) → offset < head_size h.kind → partly_at h at offset ≡ true

-- the head's numbers once these bytes have come after its first ones
abbrev pub head_after : Head → ℕ → List ℕ → Head
head_after h at ys = head_in (take at (head_record h) ++ ys)
