-- A node's packets, put one after another at the front of a buffer.
use native.Mathlib.Omega.{arith}
use mathlib.Core.Path.{◌≡◌, sym, ap, ap₂, ◌∙◌}
use mathlib.Core.List.{List, ◌++◌}
use Prim.Native.Nat.{ℕ, ◌≤◌, ◌+◌, ◌-◌}
use lib.ListN.{length, get_or, take, drop, length-drop}
use lib.Seq.{length-take-le, take_all}
use borrow.Rule.Slice.PartMut.{put_mid}
use Rattle.letters.specs.Algebra.{xors}
use Rattle.group.specs.declared.Group.{Group}
use Rattle.group.specs.Ranges.{NodeOf}
use Rattle.lengths.specs.Lengths.{packet_start, packet_length, node_letters}
use Rattle.lengths.proofs.Sizes.{packet_fits}
use Rattle.sequences.specs.Lists.{joined}
use Rattle.sequences.proofs.Lists.{joined_more}
use Rattle.sequences.proofs.PutBack.{back_length, back_front, back_after}
use Rattle.matrix.specs.Matrix.{packet, packets as product}
use Rattle.matrix.proofs.Product.{packet_next, packet_last, length_packet}

-- the part that is lent has a packet's length
pub lent :
    (g : Group) (node : ℕ) → NodeOf g node → (xs : List ℕ) (j start size : ℕ) → j + 1 ≤ g.d → length xs ≡ node_letters g node
    → start ≡ packet_start g node (j + 1) → size ≡ packet_length g node (j + 1)
    → length (take (start + size - start) (drop start xs)) ≡ packet_length g node (j + 1)
lent g node r xs j start size last long starts sized =
    length-take-le (start + size - start) (drop start xs) (rw length-drop (omega (arith, packet_fits g node r (j + 1) (omega arith) last)))
    ∙ whole
  where
    whole : start + size - start ≡ packet_length g node (j + 1)
    whole = omega arith

-- one packet more at the front
module _ (g : Group) (node : ℕ) (r : NodeOf g node) (file xs ys : List ℕ) (j start size : ℕ) (last : j + 1 ≤ g.d)
    (long : length xs ≡ node_letters g node) (starts : start ≡ packet_start g node (j + 1)) (sized : size ≡ packet_length g node (j + 1))
    (front : take start xs ≡ joined j (packet xors g file node)) (is : ys ≡ packet xors g file node (j + 1)) where
  fits : start + size ≤ length xs
  fits = omega (arith, packet_fits g node r (j + 1) (omega arith) last)

  filled : length ys ≡ start + size - start
  filled = ap length is ∙ length_packet xors g file node (j + 1) ∙ sym sized ∙ omega arith

  pub kept : length (put_mid start (start + size - start) xs ys) ≡ length xs
  kept = back_length xs ys start (start + size) (omega arith) fits filled

  pub next : take (start + size) (put_mid start (start + size - start) xs ys) ≡ joined (j + 1) (packet xors g file node)
  next =
      back_front xs ys start (start + size) (omega arith) fits filled
      ∙ ap₂ ◌++◌ front is
      ∙ sym (joined_more j (packet xors g file node))

  pub rest_kept : (q : ℕ) → start + size ≤ q → get_or (put_mid start (start + size - start) xs ys) q 0 ≡ get_or xs q 0
  rest_kept q h = back_after xs ys start (start + size) (omega arith) fits filled 0 q h

-- the next packet starts where this one ends
pub ends :
    (g : Group) (node j start size : ℕ) → start ≡ packet_start g node (j + 1) → size ≡ packet_length g node (j + 1) → start + size ≡ packet_start g node (j + 1 + 1)
ends g node j start size starts sized = ap₂ ◌+◌ starts sized ∙ sym (packet_next g node (j + 1) (omega arith))

-- all packets are in
pub all_packets :
    (g : Group) (node : ℕ) (file xs : List ℕ) (j end : ℕ) → j ≡ g.d → end ≡ packet_start g node (j + 1) → length xs ≡ node_letters g node
    → take end xs ≡ joined j (packet xors g file node) → xs ≡ product xors g file node
unfolding product
all_packets g node file xs j end done starts long front =
    sym (take_all end xs (omega (arith, packet_last g node, ap (λ m. packet_start g node (m + 1)) done)))
    ∙ front
    ∙ ap (λ m. joined m (packet xors g file node)) done
