-- Ids that may be read are ranks that the solver can take under the previews' rule, so rows of their shifts are what it wants.
use mathlib.Core.Path.{◌≡◌, sym, ap}
use mathlib.Core.List.{List}
use Prim.Native.Nat.{ℕ, ◌-◌, ◌*◌, ◌≤◌}
use native.Mathlib.Nat.{mul-one}
use native.Mathlib.Omega.{arith}
use lib.ListN.{length}
use Rattle.worth.specs.Worth.{NoZero}
use Rattle.shifts.specs.Rule.{preview_shift}
use Rattle.shifts.proofs.Rule.{preview_refined, preview_at_most}
use Rattle.system.specs.System.{sequence}
use Rattle.system.proofs.Cost.{additions_at_most, additions_all, sequences_no_zero}
use Rattle.group.specs.declared.Group.{Group}
use Rattle.preview_numbers.specs.Previews.{preview_file}
use Rattle.sequences.specs.Lists.{ranked}
use Rattle.sequences.specs.Steps.Rows.{Known}
use Rattle.system.specs.Order.{ruled}
use Rattle.sequences.proofs.Charted.{Ranks}
use Rattle.sequences.proofs.ChosenIds.{known_ids, chosen_ranks}
use Rattle.preview_product.specs.Preview.{preview_count, preview_cost, PreviewReaders}

module _ (g : Group) (ids : List ℕ) (r : PreviewReaders g ids) where
  few : g.k ≤ 16
  few = omega arith

  pub preview_known : Known ids
  preview_known = known_ids g.n g.k ids r.nodes r.group.n-high few

  pub preview_ranks : Ranks preview_shift g.k ids
  unfolding preview_shift
  preview_ranks =
      chosen_ranks g.n g.k ids r.nodes r.group.n-high few preview_shift preview_refined
      (λ i j hi hj. omega (arith, preview_at_most i j hi hj)) (λ i j. ap (λ m. m * (j - 1)) (sym (mul-one i)))

-- the count is never more than the sum, and the sum where no letter of the file is zero
module _ (g : Group) (ids file : List ℕ) where
  pub preview_count_at_most : preview_count g ids file ≤ preview_cost g ids
  unfolding preview_count preview_cost
  preview_count_at_most = additions_at_most g.k g.l (ruled preview_shift (ranked ids)) (sequence 0 file g.l)

  pub preview_count_all : length file ≡ preview_file g → NoZero file → preview_count g ids file ≡ preview_cost g ids
  unfolding preview_count preview_cost preview_file
  preview_count_all long some =
      additions_all g.k g.l (ruled preview_shift (ranked ids)) (sequence 0 file g.l) (sequences_no_zero g.k g.l file long some)
