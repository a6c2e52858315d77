-- Every content of B*L letters is the reading of some file: each column is the solution of its own system, once what later columns put into it is taken out, from the last column down.
use mathlib.Core.Path.{◌≡◌, sym, ap, ap₂, ◌∙◌, fun_ext}
use mathlib.Core.Bool.{cond}
use mathlib.Core.List.{List}
use mathlib.Core.Logic.{⊎_elim}
use Prim.Native.Nat.{ℕ, ◌+◌, ◌-◌, ◌≤◌, ◌<◌, min}
use native.Mathlib.Omega.{arith}
use lib.Dec.{leb}
use lib.ListN.{length}
use borrow.Author.Tests.{le-leb, lt-leb}
use Rattle.letters.specs.Algebra.{Letters, sum}
use Rattle.letters.proofs.Cases.{le_or_lt}
use Rattle.letters.proofs.Places.{place_cases}
use Rattle.letters.proofs.Sums.{sum_same, plus_twice}
use Rattle.system.specs.System.{part, sequence, Sequences}
use Rattle.system.proofs.Settles.{settled, settles}
use Rattle.system.proofs.SomeSolution.{solution, solved, solves}
use Rattle.system.proofs.System.{part_same}
use Rattle.group.specs.declared.Group.{Group}
use Rattle.lengths.specs.Lengths.{file_letters}
use Rattle.matrix.specs.Matrix.{entry_number, as_file, matrix}
use Rattle.matrix.specs.Pieces.{piece_letter, reading, Chosen}
use Rattle.matrix.proofs.Files.{length_as_file, as_file_at, is_as_file}
use Rattle.matrix.proofs.Product.{free, entries}
use Rattle.matrix.proofs.Reading.{shifts, column_ordered, later, piece_apart, later_corner, later_entries}

module _ {A : Type 0} (𝓛 : Letters A) (g : Group) (ids : List ℕ) (chosen : Chosen g g.k ids) (buffer : List A) where
  -- what the columns after u, given by column, rank and place, put into the piece of rank v
  abbrev from_later : (ℕ → ℕ → ℕ → A) → ℕ → ℕ → ℕ → A
  from_later x u v p =
      cond (leb u g.k)
      (sum 𝓛.adding (g.d - u) (λ w. x (u + w) u ((p + shifts ids v v) - shifts ids v (u + w))))
      𝓛.adding.none

  -- the column's own parts: what the buffer has there, less that
  abbrev own : (ℕ → ℕ → ℕ → A) → ℕ → ℕ → ℕ → A
  own x u v p =
      𝓛.adding.plus (sequence 𝓛.adding.none buffer g.l (entry_number g.k v u) p) (from_later x u v p)

  -- the column that has those parts
  abbrev step : (ℕ → ℕ → ℕ → A) → ℕ → ℕ → ℕ → A
  step x u = solution 𝓛 (min u g.k) g.l (shifts ids) (column_ordered g ids chosen u) (own x u)

  abbrev time : ℕ → ℕ
  time u = g.d - u

  reads_earlier : (x y : ℕ → ℕ → ℕ → A) (u : ℕ) → ((w : ℕ) → time w < time u → x w ≡ y w) → step x u ≡ step y u
  reads_earlier x y u h =
      ap (solution 𝓛 (min u g.k) g.l (shifts ids) (column_ordered g ids chosen u))
      (fun_ext
      (λ v.
      fun_ext
      (λ p.
      ap (λ z. 𝓛.adding.plus (sequence 𝓛.adding.none buffer g.l (entry_number g.k v u) p) (cond (leb u g.k) z 𝓛.adding.none))
      (sum_same 𝓛.adding (g.d - u)
      (λ w. x (u + w) u ((p + shifts ids v v) - shifts ids v (u + w)))
      (λ w. y (u + w) u ((p + shifts ids v v) - shifts ids v (u + w)))
      (λ w lo hi. ap (λ f. f u ((p + shifts ids v v) - shifts ids v (u + w))) (h (u + w) (omega arith)))))))

  -- the columns that the step settles to
  columns : ℕ → ℕ → ℕ → A
  columns = settled time step reads_earlier (λ u v p. 𝓛.adding.none)

  columns_are : (u : ℕ) → columns u ≡ step columns u
  unfolding columns
  columns_are u = settles time step reads_earlier (λ u v p. 𝓛.adding.none) u

  column_sequences : (u : ℕ) → Sequences 𝓛.adding.none g.l (columns u)
  column_sequences u =
      rw (columns_are u) (solved 𝓛 (min u g.k) g.l (shifts ids) (column_ordered g ids chosen u) (own columns u))

  column_parts :
      (u v p : ℕ) → 1 ≤ v → v ≤ min u g.k → 1 ≤ p → p ≤ g.l
      → part 𝓛.adding (min u g.k) (shifts ids) (columns u) v p ≡ own columns u v p
  column_parts u v p lv hv lp hp =
      ap (λ x. part 𝓛.adding (min u g.k) (shifts ids) x v p) (columns_are u)
      ∙ solves 𝓛 (min u g.k) g.l (shifts ids) (column_ordered g ids chosen u) (own columns u) v p lv hv lp hp

  -- the file of these columns
  pub source : List A
  source = as_file g (λ v u p. columns u v p)

  pub length_source : length source ≡ file_letters g
  unfolding source
  length_source = length_as_file 𝓛.adding.none g chosen.group (λ v u p. columns u v p)

  -- its entries are the columns
  source_entry :
      (u v p : ℕ) → 1 ≤ u → u ≤ g.d → 1 ≤ v → v ≤ min u g.k → matrix 𝓛.adding g source v u p ≡ columns u v p
  unfolding source
  source_entry u v p lu hu lv hv =
      ⊎_elim
      (λ w.
      free 𝓛.adding g source v u p (omega arith) (omega arith)
      ∙ as_file_at 𝓛.adding.none g chosen.group (λ v u p. columns u v p) u v p lu hu lv hv w.0 w.1)
      (λ out.
      ⊎_elim
      (λ z.
      ap (matrix 𝓛.adding g source v u) z
      ∙ (entries 𝓛.adding g source u).nothing_below v
      ∙ sym (ap (columns u v) z ∙ (column_sequences u).nothing_below v))
      (λ h. (entries 𝓛.adding g source u).nothing_above v p h ∙ sym ((column_sequences u).nothing_above v p h))
      out)
      (place_cases g.l p)

  -- what later columns put into a piece of it
  source_later :
      (u v p : ℕ) → 1 ≤ u → u ≤ g.d → later 𝓛.adding g source ids v u p ≡ from_later columns u v p
  source_later u v p lu hu =
      ⊎_elim
      (λ low.
      simp (le-leb u g.k low)
      (later_entries 𝓛.adding g source ids v u p low
      ∙ sum_same 𝓛.adding (g.d - u)
      (λ w. matrix 𝓛.adding g source u (u + w) ((p + shifts ids v v) - shifts ids v (u + w)))
      (λ w. columns (u + w) u ((p + shifts ids v v) - shifts ids v (u + w)))
      (λ w lo hi. source_entry (u + w) u ((p + shifts ids v v) - shifts ids v (u + w)) (omega arith) (omega arith) lu (omega arith))))
      (λ high. simp (lt-leb u g.k high) (later_corner 𝓛.adding g source ids v u p high))
      (le_or_lt u g.k)

  source_piece :
      (u v p : ℕ) → 1 ≤ u → u ≤ g.d → 1 ≤ v → v ≤ min u g.k → 1 ≤ p → p ≤ g.l
      → piece_letter 𝓛.adding g source ids v u p ≡ sequence 𝓛.adding.none buffer g.l (entry_number g.k v u) p
  source_piece u v p lu hu lv hv lp hp =
      piece_apart 𝓛.adding g source ids v u p hu
      ∙ ap₂ 𝓛.adding.plus
      (part_same 𝓛.adding (min u g.k) (shifts ids) (shifts ids) (λ a. matrix 𝓛.adding g source a u) (columns u) v p
      (λ a la ha. source_entry u a ((p + shifts ids v v) - shifts ids v a) lu hu la ha)
      ∙ column_parts u v p lv hv lp hp)
      (source_later u v p lu hu)
      ∙ plus_twice 𝓛 (sequence 𝓛.adding.none buffer g.l (entry_number g.k v u) p) (from_later columns u v p)

  -- reading it gives the buffer
  pub reads_buffer : length buffer ≡ file_letters g → reading 𝓛.adding g source ids ≡ buffer
  unfolding reading
  reads_buffer long =
      sym
      (is_as_file 𝓛.adding.none g chosen.group (piece_letter 𝓛.adding g source ids) buffer long
      (λ u v p lu hu lv hv lp hp. sym (source_piece u v p lu hu lv hv lp hp)))
