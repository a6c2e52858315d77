-- Where the entries of a column start, row by row: one sequence on above the diagonal, and a whole column on from there.
use mathlib.Core.Path.{◌≡◌, ap, ap₂, ◌∙◌}
use Prim.Native.Nat.{ℕ, ◌+◌, ◌-◌, ◌*◌, ◌≤◌, ◌<◌, min, max}
use native.Mathlib.Nat.{add-mul, one-mul, mul-le-mul}
use native.Mathlib.Omega.{arith}
use Rattle.group.specs.declared.Group.{Group}
use Rattle.group.specs.Ranges.{longest, InRange}
use Rattle.lengths.specs.Lengths.{file_letters}
use Rattle.lengths.proofs.Sizes.{sequences_at_most}
use Rattle.matrix.specs.Matrix.{before, entry_number, entry_start}
use Rattle.matrix.proofs.Columns.{before_next, before_rises, before_all, entry_from_one, entry_fits}

-- m sequences on
sequences_on : (l e e' m : ℕ) → 1 ≤ e → e' ≡ e + m → (e' - 1) * l ≡ (e - 1) * l + m * l
sequences_on l e e' m lo is = ap (λ n. n * l) less ∙ add-mul (e - 1) m l
  where
    less : e' - 1 ≡ e - 1 + m
    less = omega arith

module _ (g : Group) (r : InRange g) (v u : ℕ) (lv : 1 ≤ v) (lu : 1 ≤ u) where
  pub start_beside : v < u → entry_start g (v + 1) u ≡ entry_start g v u + g.l
  unfolding entry_start entry_number
  start_beside h =
      let high : max v u ≡ u = omega arith in
      let high' : max (v + 1) u ≡ u = omega arith in
      sequences_on g.l (entry_number g.k (min v u) (max v u)) (entry_number g.k (min (v + 1) u) (max (v + 1) u)) 1 (entry_from_one g.k (min v u) (max v u) (omega arith))
      (omega (arith, ap (before g.k) high, ap (before g.k) high'))
      ∙ ap (λ n. (entry_number g.k (min v u) (max v u) - 1) * g.l + n) (one-mul g.l)

  pub start_below : u ≤ v → entry_start g (v + 1) u ≡ entry_start g v u + min v g.k * g.l
  unfolding entry_start entry_number
  start_below h =
      let high : max v u ≡ v = omega arith in
      let high' : max (v + 1) u ≡ v + 1 = omega arith in
      sequences_on g.l (entry_number g.k (min v u) (max v u)) (entry_number g.k (min (v + 1) u) (max (v + 1) u)) (min v g.k) (entry_from_one g.k (min v u) (max v u) (omega arith))
      (omega (arith, ap (before g.k) high, ap (before g.k) high', before_next g.k v (omega arith) lv))

  -- no start is far on, also one row below the last
  pub start_at_most : v ≤ g.d + 1 → u ≤ g.d + 1 → entry_start g v u ≤ 256 * longest
  unfolding entry_start entry_number
  start_at_most hv hu =
      let reach : max v u + (g.d + 1 - max v u) ≡ g.d + 1 = omega arith in
      mul-le-mul {n₂ = 256} {m₂ = longest}
      (omega (arith, before_rises g.k (max v u) (g.d + 1 - max v u) (omega arith) (omega arith), ap (before g.k) reach, before_all g r, sequences_at_most g r))
      (omega arith)

  -- an entry that is not in the zero corner lies in the file
  pub start_fits : v ≤ g.d → u ≤ g.d → min v u ≤ g.k → entry_start g v u + g.l ≤ file_letters g
  unfolding entry_start
  start_fits hv hu h = entry_fits g r (min v u) (max v u) (omega arith) (omega arith) (omega arith) (omega arith)

-- the first entry of a column
pub first_start : (g : Group) (u : ℕ) → 1 ≤ u → (entry_number g.k 1 u - 1) * g.l ≡ entry_start g 1 u
unfolding entry_start
first_start g u h = ap₂ (λ a b. (entry_number g.k a b - 1) * g.l) low high
  where
    low : 1 ≡ min 1 u
    low = omega arith

    high : u ≡ max 1 u
    high = omega arith
