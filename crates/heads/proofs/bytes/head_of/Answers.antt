-- `bytes::head_of` meets its contract: the definition reads the same bytes.
use mathlib.Core.Path.{◌≡◌}
use mathlib.Core.List.{List}
use Prim.Native.Nat.{ℕ, ◌+◌}
use lib.ListN.{get_or}
use Rattle.group.specs.declared.Group.{Group}
use Rattle.group.specs.Ranges.{group_of}
use Rattle.records.specs.Records.{number_in}
use Rattle.kinds.specs.Kinds.{row_for_kind}
use Rattle.heads.specs.Heads.{head_in}
use Rattle.heads.proofs.bytes.head_of.Goals as goal

-- the numbers of bytes that are those
read :
    (xs : List ℕ) (g : Group) (n k d l i batch kind w : ℕ) → kind ≡ get_or xs 0 0 → w ≡ (row_for_kind kind).length_bytes → n ≡ get_or xs 1 0 → k ≡ get_or xs 2 0 → d ≡ get_or xs 3 0
    → i ≡ get_or xs 4 0 → l ≡ number_in w 5 xs → batch ≡ number_in 4 (5 + w) xs → g ≡ group_of n k d l
    → record { group = g; node = i; batch = batch; kind = kind } ≡ head_in xs
unfolding head_in
read xs g n k d l i batch kind w ekind ew en ek ed ei el eb eg = rw (eg, en, ek, ed, ei, el, eb, ew, ekind)

pub returns : goal.returns
returns c =
    let s = c in
    read s.args.share.now c.of-group.result _ _ _ _ _ _ s.args.kind s.args.wide
    s.requires.0 s.requires.1
    c.byte_at.ensures.0 c.byte_at-2.ensures.0 c.byte_at-3.ensures.0 c.byte_at-4.ensures.0
    c.number_in-l.ensures.0 c.number_in-batch.ensures.0 c.of-group.ensures
