-- What one column's pieces hold: the parts of that column's own entries, and what later columns put into them. So reading gives one file's pieces and no other's, column by column from the last one on.
use mathlib.Core.Path.{◌≡◌, refl, sym, ap, ◌∙◌}
use mathlib.Core.List.{List}
use mathlib.Core.Logic.{⊎_elim}
use Prim.Native.Nat.{ℕ, zero, suc, ◌+◌, ◌-◌, ◌≤◌, ◌<◌, min}
use native.Mathlib.Omega.{arith}
use lib.ListN.{length}
use Rattle.letters.specs.Algebra.{Adding, Letters, sum}
use Rattle.letters.proofs.Cases.{le_or_lt}
use Rattle.letters.proofs.Sums.{sum_same, sum_split, sum_none, plus_cancel}
use Rattle.shifts.specs.Rule.{t}
use Rattle.shifts.proofs.Rule.{refined}
use Rattle.system.specs.System.{part}
use Rattle.system.specs.Order.{Ordered, ruled}
use Rattle.system.proofs.Order.{falling_ordered, ordered_fewer}
use Rattle.system.proofs.OneSolution.{one_solution}
use Rattle.group.specs.declared.Group.{Group}
use Rattle.lengths.specs.Lengths.{file_letters}
use Rattle.sequences.specs.Lists.{ranked}
use Rattle.matrix.specs.Matrix.{as_file, matrix, packet_letter}
use Rattle.sequences.specs.Moved.{moved}
use Rattle.matrix.specs.Pieces.{piece_letter, Chosen}
use Rattle.matrix.proofs.Files.{is_as_file}
use Rattle.matrix.proofs.Product.{symmetric, corner, free, entries}

-- the shifts of the chosen nodes, by rank and column
abbrev pub shifts : List ℕ → ℕ → ℕ → ℕ
shifts ids = ruled t (ranked ids)

pub ordered : (g : Group) (wanted : ℕ) (ids : List ℕ) → Chosen g wanted ids → Ordered wanted (shifts ids)
ordered g wanted ids c = falling_ordered t refined wanted (ranked ids) c.nodes.falling

-- in column u, the ranks that send a piece give an order too
pub column_ordered : (g : Group) (ids : List ℕ) → Chosen g g.k ids → (u : ℕ) → Ordered (min u g.k) (shifts ids)
column_ordered g ids c u = ordered_fewer (shifts ids) g.k (min u g.k) (omega arith) (ordered g g.k ids c)

module _ {A : Type 0} (𝓐 : Adding A) (g : Group) (file : List A) (ids : List ℕ) where
  -- what the rows past those of column u put into its piece of rank v
  abbrev pub later : ℕ → ℕ → ℕ → A
  later v u p =
      sum 𝓐 (g.d - min u g.k)
      (λ w. matrix 𝓐 g file (min u g.k + w) u ((p + shifts ids v v) - shifts ids v (min u g.k + w)))

  pub piece_apart :
      (v u p : ℕ) → u ≤ g.d
      → piece_letter 𝓐 g file ids v u p
      ≡ 𝓐.plus (part 𝓐 (min u g.k) (shifts ids) (λ a. matrix 𝓐 g file a u) v p) (later v u p)
  unfolding piece_letter packet_letter moved part
  piece_apart v u p h =
      ap (λ d. sum 𝓐 d (λ w. matrix 𝓐 g file w u ((p + shifts ids v v) - shifts ids v w))) split
      ∙ sum_split 𝓐 (min u g.k) (g.d - min u g.k) (λ w. matrix 𝓐 g file w u ((p + shifts ids v v) - shifts ids v w))
    where
      split : g.d ≡ min u g.k + (g.d - min u g.k)
      split = omega arith

  -- past column k there is nothing more: that is the zero corner
  pub later_corner : (v u p : ℕ) → g.k < u → later v u p ≡ 𝓐.none
  later_corner v u p h =
      sum_none 𝓐 (g.d - min u g.k)
      (λ w. matrix 𝓐 g file (min u g.k + w) u ((p + shifts ids v v) - shifts ids v (min u g.k + w)))
      (λ w lo hi. corner 𝓐 g file (min u g.k + w) u ((p + shifts ids v v) - shifts ids v (min u g.k + w)) (omega arith) h)

  -- up to column k it is the entries (u,u+1), (u,u+2), .. of the columns after it
  pub later_entries :
      (v u p : ℕ) → u ≤ g.k
      → later v u p ≡ sum 𝓐 (g.d - u) (λ w. matrix 𝓐 g file u (u + w) ((p + shifts ids v v) - shifts ids v (u + w)))
  later_entries v u p h =
      let own : min u g.k ≡ u = omega arith in
      ap (λ s. sum 𝓐 (g.d - s) (λ w. matrix 𝓐 g file (s + w) u ((p + shifts ids v v) - shifts ids v (s + w)))) own
      ∙ sum_same 𝓐 (g.d - u) (λ w. matrix 𝓐 g file (u + w) u ((p + shifts ids v v) - shifts ids v (u + w)))
      (λ w. matrix 𝓐 g file u (u + w) ((p + shifts ids v v) - shifts ids v (u + w)))
      (λ w lo hi. symmetric 𝓐 g file (u + w) u ((p + shifts ids v v) - shifts ids v (u + w)))

module _ {A : Type 0} (𝓛 : Letters A) (g : Group) (ids : List ℕ) (chosen : Chosen g g.k ids) (file other : List A)
    (same : (u v p : ℕ) → 1 ≤ u → u ≤ g.d → 1 ≤ v → v ≤ min u g.k → 1 ≤ p → p ≤ g.l
    → piece_letter 𝓛.adding g file ids v u p ≡ piece_letter 𝓛.adding g other ids v u p) where
  abbrev Agree : ℕ → Type 0
  Agree u = (v p : ℕ) → 1 ≤ v → v ≤ min u g.k → matrix 𝓛.adding g file v u p ≡ matrix 𝓛.adding g other v u p

  -- what later columns put into a piece is the same once they agree
  later_same :
      (u : ℕ) → 1 ≤ u → u ≤ g.d → ((w : ℕ) → u < w → w ≤ g.d → Agree w)
      → (v p : ℕ) → later 𝓛.adding g file ids v u p ≡ later 𝓛.adding g other ids v u p
  later_same u lu hu after v p =
      ⊎_elim
      (λ low.
      later_entries 𝓛.adding g file ids v u p low
      ∙ sum_same 𝓛.adding (g.d - u)
      (λ w. matrix 𝓛.adding g file u (u + w) ((p + shifts ids v v) - shifts ids v (u + w)))
      (λ w. matrix 𝓛.adding g other u (u + w) ((p + shifts ids v v) - shifts ids v (u + w)))
      (λ w lo hi. after (u + w) (omega arith) (omega arith) u ((p + shifts ids v v) - shifts ids v (u + w)) lu (omega arith))
      ∙ sym (later_entries 𝓛.adding g other ids v u p low))
      (λ high. later_corner 𝓛.adding g file ids v u p high ∙ sym (later_corner 𝓛.adding g other ids v u p high))
      (le_or_lt u g.k)

  -- so the column's own parts are the same, and they have one solution
  column_agrees : (u : ℕ) → 1 ≤ u → u ≤ g.d → ((w : ℕ) → u < w → w ≤ g.d → Agree w) → Agree u
  column_agrees u lu hu after v p lv hv =
      one_solution 𝓛 (min u g.k) g.l (shifts ids) (column_ordered g ids chosen u)
      (λ a. matrix 𝓛.adding g file a u) (λ a. matrix 𝓛.adding g other a u)
      (entries 𝓛.adding g file u) (entries 𝓛.adding g other u)
      (λ b q lb hb lq hq.
      plus_cancel 𝓛 (later 𝓛.adding g file ids b u q)
      (part 𝓛.adding (min u g.k) (shifts ids) (λ a. matrix 𝓛.adding g file a u) b q)
      (part 𝓛.adding (min u g.k) (shifts ids) (λ a. matrix 𝓛.adding g other a u) b q)
      (turned file b u q hu
      ∙ same u b q lu hu lb hb lq hq
      ∙ sym (turned other b u q hu)
      ∙ ap (λ x. 𝓛.adding.plus x (part 𝓛.adding (min u g.k) (shifts ids) (λ a. matrix 𝓛.adding g other a u) b q))
      (sym (later_same u lu hu after b q))))
      v p lv hv
    where
      turned :
          (f : List A) (b u q : ℕ) → u ≤ g.d
          → 𝓛.adding.plus (later 𝓛.adding g f ids b u q) (part 𝓛.adding (min u g.k) (shifts ids) (λ a. matrix 𝓛.adding g f a u) b q)
          ≡ piece_letter 𝓛.adding g f ids b u q
      turned f b u q hu =
          𝓛.adding.comm (later 𝓛.adding g f ids b u q) (part 𝓛.adding (min u g.k) (shifts ids) (λ a. matrix 𝓛.adding g f a u) b q)
          ∙ sym (piece_apart 𝓛.adding g f ids b u q hu)

  -- from the last column down
  columns_agree : (m u : ℕ) → 1 ≤ u → u ≤ g.d → g.d < u + m → Agree u
  columns_agree zero u lu hu h = absurd (omega arith)
  columns_agree (suc m) u lu hu h = column_agrees u lu hu (λ w lw hw. columns_agree m w (omega arith) hw (omega arith))

  -- two files with the same pieces are the same file
  pub one_file : length file ≡ file_letters g → length other ≡ file_letters g → file ≡ other
  one_file long long' =
      laid file long (λ u v p lu hu lv hv. columns_agree g.d u lu hu (omega arith) v p lv hv)
      ∙ sym (laid other long' (λ u v p lu hu lv hv. refl))
    where
      laid :
          (f : List A) → length f ≡ file_letters g
          → ((u v p : ℕ) → 1 ≤ u → u ≤ g.d → 1 ≤ v → v ≤ min u g.k → matrix 𝓛.adding g f v u p ≡ matrix 𝓛.adding g other v u p)
          → f ≡ as_file g (matrix 𝓛.adding g other)
      laid f l e =
          is_as_file 𝓛.adding.none g chosen.group (matrix 𝓛.adding g other) f l
          (λ u v p lu hu lv hv lp hp. sym (free 𝓛.adding g f v u p (omega arith) (omega arith)) ∙ e u v p lu hu lv hv)
