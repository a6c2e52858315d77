-- Bounds on the lengths of a group of previews in range, so that nothing overflows.
use Prim.Native.Nat.{ℕ, ◌+◌, ◌*◌, ◌≤◌}
use native.Mathlib.Nat.{mul-le-mul}
use native.Mathlib.Omega.{arith}
use Rattle.shifts.specs.Rule.{preview_shift}
use Rattle.shifts.proofs.Rule.{preview_at_most}
use Rattle.group.specs.declared.Group.{Group}
use Rattle.group.specs.Ranges.{most_nodes}
use Rattle.preview_numbers.specs.Previews.{longest_preview, widest_preview, preview_file, preview_packet, PreviewRange, PreviewNode}

pub preview_file_at_most : (g : Group) → PreviewRange g → preview_file g ≤ most_nodes * longest_preview
unfolding preview_file
preview_file_at_most g r = mul-le-mul {n₂ = most_nodes} {m₂ = longest_preview} (omega arith) (omega arith)

module _ (g : Group) (i : ℕ) (r : PreviewNode g i) where
  pub preview_shift_at_most : preview_shift i g.k ≤ widest_preview
  preview_shift_at_most = preview_at_most i g.k (omega arith) (omega arith)

  pub preview_packet_at_most : preview_packet g i ≤ longest_preview + widest_preview
  unfolding preview_packet
  preview_packet_at_most = omega (arith, preview_shift_at_most)

  -- and it holds some
  pub preview_packet_some : 1 ≤ preview_packet g i
  unfolding preview_packet
  preview_packet_some = omega arith
