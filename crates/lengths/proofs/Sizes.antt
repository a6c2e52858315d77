-- Bounds on every length of a group in range, so that nothing overflows, and where packets stand in a node's letters.
use mathlib.Core.Path.{◌≡◌}
use Prim.Native.Nat.{ℕ, ◌+◌, ◌-◌, ◌*◌, ◌≤◌}
use native.Mathlib.Nat.{mul-le-mul, mul-le-mul_left, mul-le-mul_right, add-mul, one-mul}
use native.Mathlib.Omega.{arith}
use Rattle.letters.proofs.Sums.{sum_constant}
use Rattle.shifts.specs.Rule.{t}
use Rattle.group.specs.declared.Group.{Group}
use Rattle.group.specs.Ranges.{most_packets, most_sequences, longest, widest, longest_packet, most_letters, InRange, NodeOf}
use Rattle.lengths.specs.Lengths.{sequences, file_letters, packet_length, packet_start, node_letters, repair_letters}

module _ (g : Group) (r : InRange g) where
  pub kd_at_most : g.k * g.d ≤ most_sequences
  kd_at_most = mul-le-mul {n₂ = most_packets} {m₂ = most_packets} (omega arith) (omega arith)

  -- what B takes off is less than what it is taken off from
  pub pairs_below : g.k * (g.k - 1) ≤ g.k * g.d
  pairs_below = mul-le-mul_left g.k (omega arith)

  pub sequences_at_most : sequences g ≤ most_sequences
  unfolding sequences
  sequences_at_most = omega (arith, kd_at_most)

  pub file_at_most : file_letters g ≤ most_sequences * longest
  unfolding file_letters
  file_at_most = mul-le-mul {n₂ = most_sequences} {m₂ = longest} sequences_at_most (omega arith)

-- the packets of a node are of one length, so they start at its multiples
pub packet_start_lem : (g : Group) (i j : ℕ) → packet_start g i j ≡ (j - 1) * (g.l + t i g.d)
unfolding packet_start packet_length
packet_start_lem g i j = sum_constant (j - 1) (g.l + t i g.d)

module _ (g : Group) (i : ℕ) (r : NodeOf g i) where
  pub shift_at_most : t i g.d ≤ widest
  unfolding t
  shift_at_most = mul-le-mul {n₂ = 15} {m₂ = 14} (omega arith) (omega arith)

  pub packet_at_most : g.l + t i g.d ≤ longest_packet
  packet_at_most = omega (arith, shift_at_most)

  pub repair_at_most : repair_letters g i ≤ longest_packet
  unfolding repair_letters
  repair_at_most = packet_at_most

  pub node_at_most : node_letters g i ≤ most_letters
  unfolding node_letters
  node_at_most = mul-le-mul {n₂ = most_packets} {m₂ = longest_packet} (omega arith) packet_at_most

  -- documents 01 and 02, Ask 6 (docs/SCHEME.md, 4): T is at most 15,731,790, and at most 64,590 where L is at most 4,096
  pub most_letters_lem : node_letters g i ≤ 15731790
  most_letters_lem = node_at_most

  -- and it holds some
  pub node_some : 1 ≤ node_letters g i
  unfolding node_letters
  node_some = mul-le-mul {n₁ = 1} {m₁ = 1} (omega arith) (omega arith)

  -- a packet ends within the node's letters
  pub packet_fits : (j : ℕ) → 1 ≤ j → j ≤ g.d → packet_start g i j + packet_length g i j ≤ node_letters g i
  unfolding packet_length node_letters
  packet_fits j lo hi =
      omega (arith, packet_start_lem g i j, one-mul (g.l + t i g.d), add-mul (j - 1) 1 (g.l + t i g.d), mul-le-mul_right (g.l + t i g.d) last)
    where
      last : j - 1 + 1 ≤ g.d
      last = omega arith
