-- Document 01's "Counts" (docs/SCHEME.md, 8), over what comes out: the number of terms of its sums whose letter isn't zero, and the sums themselves, which are the numbers of all terms.
use Rattle.std.specs.Prelude.{List, ℕ, ◌+◌, ◌-◌, min}
use Rattle.letters.specs.Algebra.{xors, counts, sum}
use Rattle.shifts.specs.Rule.{t}
use Rattle.system.specs.System.{sequence}
use Rattle.system.specs.Order.{ruled}
use Rattle.system.specs.Count.{terms, additions, cost}
use Rattle.group.specs.declared.Group.{Group}
use Rattle.lengths.specs.Lengths.{repair_letters}
use Rattle.sequences.specs.Lists.{ranked}
use Rattle.matrix.specs.Matrix.{matrix}

-- of repair, where these are the packets that come out: the terms of solving with s = d over L' letters
unfoldable pub repair_count : Group → ℕ → List ℕ → List ℕ → ℕ
unfolding additions sequence repair_letters ranked t
repair_count g lost helpers rebuilt =
    additions g.d (repair_letters g lost) (ruled t (ranked helpers)) (sequence 0 rebuilt (repair_letters g lost))

-- how many letters of m(v,u) of the file that aren't zero are taken out of entry (w,v), where m(v,u) lies in the piece of rank w as column u: none of those outside 1..L
unfoldable pub taking_out : Group → List ℕ → List ℕ → ℕ → ℕ → ℕ → ℕ
unfolding terms ranked t matrix
taking_out g ids file u v w = terms g.l (ruled t (ranked ids)) (matrix xors g file v u) w u

-- of recovery, where this is the file that comes out: the terms of solving each column u, with s = min(u,k), and for u = 2..d those that take m(v,u) out of the entries (w,v), w <= v, of each column v before it
unfoldable pub recovery_count : Group → List ℕ → List ℕ → ℕ
unfolding sum additions ranked t matrix taking_out
recovery_count g ids file =
    sum counts g.d (λ u. additions (min u g.k) g.l (ruled t (ranked ids)) (λ a. matrix xors g file a u))
    + sum counts (g.d - 1) (λ u. sum counts (min u g.k) (λ v. sum counts v (λ w. taking_out g ids file (u + 1) v w)))

-- the number of all those terms, as document 01 has it (docs/SCHEME.md, 8)
unfoldable pub recovery_cost : Group → List ℕ → ℕ
unfolding sum cost ranked t
recovery_cost g ids =
    sum counts g.d (λ u. cost (min u g.k) g.l (ruled t (ranked ids)))
    + sum counts (g.d - 1)
    (λ u.
    sum counts (min u g.k)
    (λ v. sum counts v (λ w. g.l - (t (ranked ids w) (u + 1) - t (ranked ids w) w))))

unfoldable pub repair_cost : Group → ℕ → List ℕ → ℕ
unfolding cost repair_letters ranked t
repair_cost g lost helpers = cost g.d (repair_letters g lost) (ruled t (ranked helpers))
