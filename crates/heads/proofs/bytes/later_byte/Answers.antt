-- `bytes::later_byte` meets its contract: first L's bytes, and then those of the batch.
use mathlib.Core.Path.{◌≡◌, sym, ap, ◌∙◌}
use Prim.Native.Nat.{ℕ, ◌+◌, ◌-◌, ◌≤◌, ◌<◌}
use native.Mathlib.Omega.{arith}
use lib.ListN.{get_or}
use Rattle.records.specs.Records.{number}
use Rattle.heads.specs.declared.Head.{Head}
use Rattle.heads.specs.Heads.{head_record}
use Rattle.heads.proofs.HeadLaws.{wide, record_length, record_batch}
use Rattle.heads.proofs.bytes.later_byte.Goals as goal

-- behind L
in_batch :
    (h : Head) (nth w r : ℕ) → w ≡ wide h.kind → w ≤ nth → nth < wide h.kind + 4
    → ((size : ℕ) → nth - w < size → r ≡ get_or (number size h.batch) (nth - w) 0) → r ≡ get_or (head_record h) (5 + nth) 0
in_batch h nth w r e past less byte =
    let at : 5 + wide h.kind + (nth - w) ≡ 5 + nth = omega arith in
    byte 4 (omega arith) ∙ sym (record_batch h (nth - w)) ∙ ap (λ i. get_or (head_record h) i 0) at

pub byte_of-requires : goal.byte_of-requires
byte_of-requires c = omega (arith, c.length_bytes-wide.ensures.1, c.if-nth-wide.true)

pub returns-then-nth-wide : goal.returns-then-nth-wide
returns-then-nth-wide c =
    let a = c.args in
    let e = c.length_bytes-wide.ensures.0 in
    let in-l : a.nth < wide a.head.kind = omega (arith, e, c.if-nth-wide.true) in
    c.byte_of.ensures (wide a.head.kind) in-l ∙ sym (record_length a.head a.nth in-l)

pub byte_of-requires-2 : goal.byte_of-requires-2
byte_of-requires-2 c =
    let s = c in
    omega (arith, s.requires, c.length_bytes-wide.ensures.0, c.if-nth-wide.false)

pub returns : goal.returns
returns c =
    let s = c in
    let a = s.args in
    in_batch a.head a.nth c.length_bytes-wide.result c.byte_of-2.result c.length_bytes-wide.ensures.0 c.if-nth-wide.false s.requires c.byte_of-2.ensures
