-- How far the later columns are moved in a piece: the shifts of a node rise with the column.
use mathlib.Core.Path.{◌≡◌, ap₂, ◌∙◌}
use mathlib.Core.List.{List}
use Prim.Native.Nat.{ℕ, ◌-◌, ◌≤◌}
use native.Mathlib.Omega.{arith}
use Rattle.shifts.specs.Rule.{t}
use Rattle.equation.specs.Rows.{shift_in}
use Rattle.group.specs.declared.Group.{Group}
use Rattle.group.specs.Ranges.{widest}
use Rattle.lengths.proofs.Sizes.{shift_at_most}
use Rattle.sequences.specs.Lists.{ranked}
use Rattle.sequences.specs.Steps.Rows.{RowsOf}
use Rattle.sequences.proofs.Charted.{rows_shift}
use Rattle.matrix.specs.Pieces.{Chosen}
use Rattle.matrix.proofs.Product.{shift_rises}
use Rattle.column_runs.specs.Steps.Runs.{moved_by}

module _ (g : Group) (ids : List ℕ) (chosen : Chosen g g.k ids) (w : ℕ) (lw : 1 ≤ w) (hw : w ≤ g.k) where
  pub rises : (u u' : ℕ) → 1 ≤ u → u ≤ u' → t (ranked ids w) u ≤ t (ranked ids w) u'
  rises u u' lu h = shift_rises (ranked ids w) u u' (chosen.nodes.falling.from_one w lw hw) lu h

  pub moves_rise : (u u' : ℕ) → 1 ≤ u → u ≤ u' → moved_by ids w u ≤ moved_by ids w u'
  moves_rise u u' lu h = omega (arith, rises u u' lu h)

  -- as the code reads them in the rows
  module _ (rows : List ℕ) (r : RowsOf t ids rows) (u : ℕ) (hu : w ≤ u) (hd : u ≤ g.d) (su sw : ℕ) (esu : su ≡ shift_in rows w u) (esw : sw ≡ shift_in rows w w) where
    same_shift : (a : ℕ) → 1 ≤ a → a ≤ u → shift_in rows w a ≡ t (ranked ids w) a
    same_shift a la ha = rows_shift t ids rows r w a lw (omega (arith, chosen.nodes.many)) la (omega (arith, chosen.group.d_high, chosen.group.n-high))

    pub shifts_rise : sw ≤ su
    shifts_rise = omega (arith, rises w u lw hu, same_shift u (omega arith) (omega arith), same_shift w lw hu)

    pub same_move : (su - sw ≡ moved_by ids w u) × (su - sw ≤ widest)
    same_move = (
      ap₂ ◌-◌ (esu ∙ same_shift u (omega arith) (omega arith)) (esw ∙ same_shift w lw hu),
      omega (
        arith,
        same_shift u (omega arith) (omega arith),
        rises u g.d (omega arith) hd,
        shift_at_most g (ranked ids w) (record { group = chosen.group; low = chosen.nodes.falling.from_one w lw hw; high = chosen.nodes.known w lw hw }),
      ),
    )
