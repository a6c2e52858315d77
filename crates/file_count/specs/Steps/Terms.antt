-- The terms of a recovery by the entry m(v,u) of the file whose letters they take.
use Rattle.std.specs.Prelude.{◌≡◌, cond, List, ℕ, ◌+◌, ◌*◌, ◌^◌, min, leb, length}
use Rattle.letters.specs.Algebra.{xors, counts, sum}
use Rattle.shifts.specs.Rule.{t}
use Rattle.system.specs.Order.{ruled}
use Rattle.system.specs.Count.{terms, other}
use Rattle.group.specs.declared.Group.{Group}
use Rattle.lengths.specs.Lengths.{file_letters}
use Rattle.sequences.specs.Lists.{ranked}
use Rattle.sequences.specs.Steps.Rows.{RowsOf}
use Rattle.matrix.specs.Matrix.{matrix}
use Rattle.matrix.specs.Pieces.{Chosen}
use Rattle.matrix.specs.Counts.{taking_out}

-- those of solving its column
abbrev pub solving_terms : Group → List ℕ → List ℕ → ℕ → ℕ → ℕ
solving_terms g ids file u v = sum counts (min u g.k) (λ b. other v b (terms g.l (ruled t (ranked ids)) (matrix xors g file v u) b v))

-- those that take it out of the entries (w,v), w <= v, of column v, which is before its own
abbrev pub taking_terms : Group → List ℕ → List ℕ → ℕ → ℕ → ℕ
taking_terms g ids file u v = cond (leb u v) 0 (sum counts v (λ w. taking_out g ids file u v w))

-- all of column u
unfoldable pub column_terms : Group → List ℕ → List ℕ → ℕ → ℕ
unfolding sum terms taking_out matrix ranked t
column_terms g ids file u = sum counts (min u g.k) (λ v. solving_terms g ids file u v + taking_terms g ids file u v)

-- a file of B*L letters, and the rows of shifts of the k nodes that it came from
pub record Recovery (g : Group) (ids rows file : List ℕ) : Type 0 where
  pub chosen : Chosen g g.k ids
  pub shifts : RowsOf t ids rows
  pub long : length file ≡ file_letters g

-- no entry has more terms in one of the two sums, for at most 16 ranks
abbrev pub entry_most : ℕ
entry_most = 16 * 2 ^ 32
