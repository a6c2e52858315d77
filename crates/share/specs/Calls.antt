-- What the calls promise, in the numbers of documents 01 and 02 (docs/SCHEME.md, 11).
use Rattle.std.specs.Prelude.{◌≡◌, List, ℕ, length}
use Rattle.group.specs.declared.Group.{Group}
use Rattle.group.specs.Answers.{Answer}
use Rattle.group.specs.Answers.{first, if_fine, Answers}
use Rattle.group.specs.Ranges.{input_refusal, output_refusal}
use Rattle.records.specs.Records.{size_for}
use Rattle.layout.specs.Share.{share_of}
use Rattle.heads.specs.declared.Head.{Head}
use Rattle.kinds.specs.Kinds.{row_for_kind, kind_for_length, head_size}
use Rattle.heads.specs.Heads.{heads}

-- the bytes of node i's share of this kind: a head of its size, T letters in blocks, and the end
unfoldable pub kind_bytes : ℕ → Group → ℕ → ℕ
kind_bytes kind g i = size_for (head_size kind) ((row_for_kind kind).letters g i)

-- kind 1 or 6, by L, holds a node's packets, and kind 5 its packet of previews
abbrev pub share_bytes : Group → ℕ → ℕ
share_bytes g i = kind_bytes (kind_for_length g.l) g i

abbrev pub preview_bytes : Group → ℕ → ℕ
preview_bytes = kind_bytes 5

-- the letters and the bytes of a share with this head
abbrev pub head_letters : Head → ℕ
head_letters h = (row_for_kind h.kind).letters h.group h.node

abbrev pub head_bytes : Head → ℕ
head_bytes h = kind_bytes h.kind h.group h.node

-- the refusals of writing: 1, 2 and 3 of the node by the ranges of its kind, then 5 and 6 of the two lent buffers
unfoldable pub fit_refusal : Head → ℕ → ℕ → ℕ
fit_refusal h packets share = first (input_refusal (head_letters h) packets) (output_refusal (head_bytes h) share)

unfoldable pub write_refusal : Head → ℕ → ℕ → ℕ
write_refusal h packets share = first ((row_for_kind h.kind).refusal h.group h.node) (fit_refusal h packets share)

-- What writing answers, with this refusal number (0: none), and what the lent buffer then holds: the share, or what it held.
pub record Writes (h : Head) (letters before : List ℕ) (refusal : ℕ) (r : Answer) (after : List ℕ) : Type 0 where
  pub answered : Answers r refusal (head_bytes h)
  pub held : after ≡ if_fine refusal (share_of heads h letters) before

-- what the public call does: any head, any two buffers
abbrev pub Written : Head → List ℕ → List ℕ → Answer → List ℕ → Type 0
Written h letters before r after = Writes h letters before (write_refusal h (length letters) (length before)) r after

-- the head that writing gives a share of packets, and one of previews
abbrev pub head_for : Group → ℕ → ℕ → Head
head_for g node batch = record { group = g; node = node; batch = batch; kind = kind_for_length g.l }

abbrev pub preview_head : Group → ℕ → ℕ → Head
preview_head g node batch = record { group = g; node = node; batch = batch; kind = 5 }
