-- Recovery column by column, from the last one down: at the start nothing is done, each column that is solved once the later ones are taken out of it is one more, and in the end all have their pieces.
use mathlib.Core.Path.{◌≡◌, refl, sym, ap, ap₂, subst, ◌∙◌}
use mathlib.Core.List.{List}
use mathlib.Core.Logic.{⊎_elim}
use Prim.Native.Nat.{ℕ, ◌+◌, ◌-◌, ◌≤◌, min}
use native.Mathlib.Omega.{arith}
use lib.Bits.{bit_xor}
use Rattle.letters.specs.Algebra.{bytes, xors}
use Rattle.letters.proofs.Cases.{le_or_lt, eq_or_ne}
use Rattle.letters.proofs.Sums.{sum_none, plus_twice}
use Rattle.system.proofs.System.{part_same}
use Rattle.group.specs.declared.Group.{Group}
use Rattle.matrix.specs.Matrix.{matrix}
use Rattle.matrix.specs.Pieces.{piece_letter, reading}
use Rattle.column_runs.specs.Steps.Runs.{standing, seen_at, from_column, from_next}
use Rattle.columns.specs.Steps.Columns.{Collected}
use Rattle.column_runs.proofs.Pulling.{same_next}
use Rattle.solved_columns.specs.Steps.Recovery.{Column, Stage}
use Rattle.matrix.proofs.Files.{is_as_file}
use Rattle.matrix.proofs.Product.{corner, free}
use Rattle.matrix.proofs.Reading.{shifts, later, piece_apart, later_corner, later_entries}

module _ (g : Group) (ids : List ℕ) where
  -- what the later columns put into a piece is what they put into its entry
  later_next : (file : List ℕ) (v u p : ℕ) → later xors g file ids v u p ≡ from_next g ids file u v (g.d - u) p
  later_next file v u p =
      ⊎_elim (λ low. later_entries xors g file ids v u p low)
      (λ high.
      later_corner xors g file ids v u p high
      ∙ sym
      (sum_none xors (g.d - u) (λ j. from_column g ids file u v (u + j) p)
      (λ j lo hi. corner xors g file u (u + j) (seen_at ids v (u + j) p) high (omega arith))))
      (le_or_lt u g.k)

  -- two buffers that stand alike from column x on
  abbrev Alike : List ℕ → List ℕ → ℕ → Type 0
  Alike f f' x = (v y p : ℕ) → x ≤ y → y ≤ g.d → 1 ≤ v → v ≤ min y g.k → standing g f v y p ≡ standing g f' v y p

  piece_alike :
      (f f' : List ℕ) (x v p : ℕ) → Alike f f' x → 1 ≤ x → x ≤ g.d → piece_letter xors g f ids v x p ≡ piece_letter xors g f' ids v x p
  piece_alike f f' x v p same lx hx =
      piece_apart xors g f ids v x p hx
      ∙ ap₂ bit_xor
      (part_same xors (min x g.k) (shifts ids) (shifts ids) (λ a. matrix xors g f a x) (λ a. matrix xors g f' a x) v p
      (λ a la ha.
      free xors g f a x ((p + shifts ids v v) - shifts ids v a) (omega arith) (omega arith)
      ∙ same a x ((p + shifts ids v v) - shifts ids v a) (omega arith) hx la ha
      ∙ sym (free xors g f' a x ((p + shifts ids v v) - shifts ids v a) (omega arith) (omega arith))))
      (later_next f v x p
      ∙ same_next g ids x f' f (λ u q low past hu. same x u q (omega arith) hu lx (omega arith)) v p
      ∙ sym (later_next f' v x p))
      ∙ sym (piece_apart xors g f' ids v x p hx)

  pub stage_start : (start : List ℕ) → Stage g ids g.d start start
  stage_start start =
      record {
        same_length = refl;
        done = λ x v p past hx lv hv lp hp. absurd (omega arith);
        waiting = λ x v p lx hx lv hv. refl;
      }

  -- what one column more takes: u - 1 columns are left
  module _ (u : ℕ) (lu : 1 ≤ u) (hu : u ≤ g.d) (start mid after : List ℕ) (stage : Stage g ids u start mid)
      (column : Column g ids u mid after) where
    -- the later columns are as they were
    later_kept : Alike after mid (u + 1)
    later_kept v y p ly hy lv hv = column.kept v y p (omega arith) hy (λ e. omega arith) lv hv

    -- the column itself has its pieces now
    own_done : (v p : ℕ) → 1 ≤ v → v ≤ min u g.k → 1 ≤ p → p ≤ g.l → piece_letter xors g after ids v u p ≡ standing g start v u p
    own_done v p lv hv lp hp =
        piece_apart xors g after ids v u p hu
        ∙ ap₂ bit_xor
        (part_same xors (min u g.k) (shifts ids) (shifts ids) (λ a. matrix xors g after a u) (λ a. standing g after a u) v p
        (λ a la ha. free xors g after a u ((p + shifts ids v v) - shifts ids v a) (omega arith) (omega arith))
        ∙ column.solved v p lv hv lp hp
        ∙ ap (λ z. bit_xor z (from_next g ids mid u v (g.d - u) p)) (stage.waiting u v p lu (omega arith) lv hv))
        (later_next after v u p ∙ same_next g ids u mid after (λ y q low past hy. later_kept u y q (omega arith) hy lu (omega arith)) v p)
        ∙ plus_twice bytes (standing g start v u p) (from_next g ids mid u v (g.d - u) p)

    pub stage_next : Stage g ids (u - 1) start after
    stage_next =
        record {
          same_length = column.same_length ∙ stage.same_length;
          done =
              λ x v p past hx lv hv lp hp.
              ⊎_elim
              (λ e.
              subst (λ y. v ≤ min y g.k → piece_letter xors g after ids v y p ≡ standing g start v y p) (sym e) (λ h. own_done v p lv h lp hp) hv)
              (λ ne.
              piece_alike after mid x v p (λ w y q ly hy lw hw. later_kept w y q (omega arith) hy lw hw) (omega arith) hx
              ∙ stage.done x v p (omega arith) hx lv hv lp hp)
              (eq_or_ne x u);
          waiting = λ x v p lx hx lv hv. column.kept v x p lx (omega arith) (λ e. omega arith) lv hv ∙ stage.waiting x v p lx (omega arith) lv hv;
        }

  -- all columns are done: the buffer is the one file that has the pieces
  pub stage_end : (start after : List ℕ) → Collected g ids start → Stage g ids 0 start after → reading xors g after ids ≡ start
  unfolding reading
  stage_end start after collected stage =
      sym
      (is_as_file 0 g collected.chosen.group (piece_letter xors g after ids) start collected.long
      (λ u v p lu hu lv hv lp hp. sym (stage.done u v p lu hu lv hv lp hp)))
