-- Letters laid out as a file: how many there are, where each stands, and that a file is nothing but its letters at its entries.
use mathlib.Core.Path.{◌≡◌, sym, ap, ◌∙◌}
use mathlib.Core.List.{List}
use Prim.Native.Nat.{ℕ, ◌+◌, ◌-◌, ◌*◌, ◌≤◌, min}
use native.Mathlib.Nat.{add-mul, zero-mul, add_assoc}
use native.Mathlib.Omega.{arith}
use lib.ListN.{length, get_or, take, drop, length-drop}
use lib.Seq.{get_or-take, get_or-drop, length-take-le}
use Rattle.system.specs.System.{sequence}
use Rattle.system.proofs.System.{sequence_inside, index_below}
use Rattle.group.specs.declared.Group.{Group}
use Rattle.group.specs.Ranges.{InRange}
use Rattle.lengths.specs.Lengths.{file_letters}
use Rattle.sequences.specs.Lists.{run, joined}
use Rattle.matrix.specs.Matrix.{before, entry_number, as_file}
use Rattle.sequences.proofs.Lists.{ListStarts, length_joined, get_d_joined, ends_within, is_joined}
use Rattle.sequences.proofs.Sequences.{place_index, length_runs, get_d_runs, is_runs}
use Rattle.matrix.proofs.Columns.{before_first, before_next, before_all}

module _ {A : Type 0} (none : A) (g : Group) (r : InRange g) (f : ℕ → ℕ → ℕ → A) where
  -- one column: its entries one after another
  abbrev column : ℕ → List A
  column u = joined (min u g.k) (λ v. run g.l (f v u))

  length_column : (u : ℕ) → length (column u) ≡ min u g.k * g.l
  length_column u = length_runs none (min u g.k) g.l (λ v. f v u)

  columns_start : ListStarts g.d column (λ u. before g.k u * g.l)
  columns_start =
      record {
        first = ap (λ m. m * g.l) (before_first g.k (omega arith)) ∙ zero-mul g.l;
        next =
            λ u lo hi.
            ap (λ m. m * g.l) (before_next g.k u (omega arith) lo)
            ∙ add-mul (before g.k u) (min u g.k) g.l
            ∙ ap (λ m. before g.k u * g.l + m) (sym (length_column u));
      }

  pub length_as_file : length (as_file g f) ≡ file_letters g
  unfolding as_file file_letters
  length_as_file =
      length_joined g.d column (λ u. before g.k u * g.l) columns_start ∙ ap (λ m. m * g.l) (before_all g r)

  -- where letter p of entry (v,u) stands
  index : (u v p : ℕ) → 1 ≤ v → (entry_number g.k v u - 1) * g.l + (p - 1) ≡ before g.k u * g.l + ((v - 1) * g.l + (p - 1))
  unfolding entry_number
  index u v p lo =
      ap (λ m. m * g.l + (p - 1)) later
      ∙ ap (λ m. m + (p - 1)) (add-mul (before g.k u) (v - 1) g.l)
      ∙ add_assoc (before g.k u * g.l) ((v - 1) * g.l) (p - 1)
    where
      later : before g.k u + v - 1 ≡ before g.k u + (v - 1)
      later = omega arith

  pub as_file_at :
      (u v p : ℕ) → 1 ≤ u → u ≤ g.d → 1 ≤ v → v ≤ min u g.k → 1 ≤ p → p ≤ g.l
      → sequence none (as_file g f) g.l (entry_number g.k v u) p ≡ f v u p
  unfolding as_file
  as_file_at u v p lu hu lv hv lp hp =
      sequence_inside none (as_file g f) g.l (entry_number g.k v u) p lp hp
      ∙ ap (λ i. get_or (as_file g f) i none) (index u v p lv)
      ∙ get_d_joined g.d column (λ u. before g.k u * g.l) none columns_start u ((v - 1) * g.l + (p - 1)) lu hu (rw length_column (index_below (min u g.k) g.l v p lv hv lp hp))
      ∙ get_d_runs none (min u g.k) g.l (λ v. f v u) v (p - 1) lv hv (omega arith)
      ∙ ap (f v u) (place_index p lp)

  -- a list of B*L letters is what its letters at the entries are laid out to
  module _ (xs : List A) (long : length xs ≡ file_letters g)
      (has : (u v p : ℕ) → 1 ≤ u → u ≤ g.d → 1 ≤ v → v ≤ min u g.k → 1 ≤ p → p ≤ g.l
      → sequence none xs g.l (entry_number g.k v u) p ≡ f v u p) where
    -- a column's letters end within the list
    fits : (u : ℕ) → 1 ≤ u → u ≤ g.d → before g.k u * g.l + min u g.k * g.l ≤ length xs
    unfolding file_letters
    fits u lu hu =
        omega (
          arith,
          ends_within g.d column (λ u. before g.k u * g.l) columns_start u lu hu,
          length_column u,
          long ∙ ap (λ m. m * g.l) (sym (before_all g r)),
        )

    letters_of_lem : (u : ℕ) → 1 ≤ u → u ≤ g.d → take (min u g.k * g.l) (drop (before g.k u * g.l) xs) ≡ column u
    letters_of_lem u lu hu =
        is_runs none (min u g.k) g.l (λ v. f v u) (take (min u g.k * g.l) (drop (before g.k u * g.l) xs))
        (length-take-le (min u g.k * g.l) (drop (before g.k u * g.l) xs) (rw length-drop (omega (arith, fits u lu hu))))
        (λ v p lv hv lp hp.
        sequence_inside none (take (min u g.k * g.l) (drop (before g.k u * g.l) xs)) g.l v p lp hp
        ∙ get_or-take (min u g.k * g.l) (drop (before g.k u * g.l) xs) ((v - 1) * g.l + (p - 1)) none
        (index_below (min u g.k) g.l v p lv hv lp hp)
        ∙ get_or-drop (before g.k u * g.l) xs ((v - 1) * g.l + (p - 1)) none
        ∙ ap (λ i. get_or xs i none) (sym (index u v p lv))
        ∙ sym (sequence_inside none xs g.l (entry_number g.k v u) p lp hp)
        ∙ has u v p lu hu lv hv lp hp)

    pub is_as_file : xs ≡ as_file g f
    unfolding as_file file_letters
    is_as_file =
        is_joined none g.d column (λ u. before g.k u * g.l) columns_start xs (long ∙ ap (λ m. m * g.l) (sym (before_all g r)))
        (λ u q lu hu l.
        sym (get_or-drop (before g.k u * g.l) xs q none)
        ∙ sym (get_or-take (min u g.k * g.l) (drop (before g.k u * g.l) xs) q none (rw length_column at l))
        ∙ ap (λ ys. get_or ys q none) (letters_of_lem u lu hu))
