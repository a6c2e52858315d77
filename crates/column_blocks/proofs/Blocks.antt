-- The places that every later column reaches, in one pass: the runs that are summed there are the entry itself and each of these columns from where it is seen.
use mathlib.Core.Path.{◌≡◌, ap, ap₂, sym, ◌∙◌}
use mathlib.Core.List.{List}
use mathlib.Core.Logic.{⊎_elim}
use Prim.Native.Nat.{ℕ, ◌+◌, ◌-◌, ◌≤◌, ◌<◌}
use native.Mathlib.Omega.{arith}
use lib.Bits.{bit_xor}
use lib.ListN.{length, get_or, set, length-set}
use lib.Seq.{get_or-set_same, get_or-set_other}
use Rattle.letters.specs.Algebra.{xors, sum}
use Rattle.letters.specs.Laid.{Laid}
use Rattle.letters.proofs.Cases.{le_or_lt, eq_or_ne}
use Rattle.letters.proofs.Sums.{sum_same, sum_first}
use Rattle.sums.specs.Sums.{run_start, sum_at, RunsInside, NoneBefore}
use Rattle.system.proofs.System.{sequence_inside}
use Rattle.group.specs.declared.Group.{Group}
use Rattle.lengths.specs.Lengths.{file_letters}
use Rattle.matrix.specs.Matrix.{entry_number}
use Rattle.matrix.proofs.Columns.{entry_fits}
use Rattle.column_runs.specs.Steps.Runs.{standing, moved_by, from_column, from_next, Entry, Grown}
use Rattle.column_runs.proofs.Growing.{base, laid_grown}
use Rattle.column_runs.proofs.Moving.{moves_rise}
use Rattle.column_runs.proofs.Pulling.{entries_fit, source}

-- where the entry and the next m columns are seen from place wide + 1 of entry (w,v) on
pub record ColumnsSeen (g : Group) (ids : List ℕ) (v w wide m : ℕ) (starts : List ℕ) : Type 0 where
  pub long : length starts ≡ 16
  pub own : get_or starts 0 0 ≡ base g v w + wide
  pub later : (j : ℕ) → 1 ≤ j → j ≤ m → get_or starts j 0 + moved_by ids w (v + j) ≡ base g (v + j) v + wide

module _ (g : Group) (ids : List ℕ) (v w wide : ℕ) where
  pub starts_none : (starts : List ℕ) → length starts ≡ 16 → get_or starts 0 0 ≡ base g v w + wide → ColumnsSeen g ids v w wide (v - v) starts
  starts_none starts long own = record { long = long; own = own; later = λ j lo hi. absurd (omega arith) }

  -- one column more, as the loop over them stores it
  pub starts_next :
      (u start : ℕ) (starts : List ℕ) → v ≤ u → u + 1 - v < 16 → start + moved_by ids w (u + 1) ≡ base g (u + 1) v + wide
      → ColumnsSeen g ids v w wide (u - v) starts → ColumnsSeen g ids v w wide (u + 1 - v) (set starts (u + 1 - v) start)
  starts_next u start starts h few e done =
      record {
        long = simp length-set done.long;
        own = get_or-set_other starts (u + 1 - v) 0 start 0 (λ q. omega arith) ∙ done.own;
        later =
            λ j lo hi.
            ⊎_elim
            (λ q.
            let there : v + j ≡ u + 1 = omega arith in
            ap₂ (λ i n. get_or (set starts (u + 1 - v) start) i 0 + moved_by ids w n) q there
            ∙ ap (λ n. n + moved_by ids w (u + 1)) (get_or-set_same starts (u + 1 - v) start 0 (omega (arith, done.long)))
            ∙ e
            ∙ ap (λ n. base g n v + wide) (sym there))
            (λ ne. ap (λ n. n + moved_by ids w (v + j)) (get_or-set_other starts (u + 1 - v) j start 0 (λ q. ne q)) ∙ done.later j lo (omega arith))
            (eq_or_ne j (u + 1 - v));
      }

module _ (g : Group) (ids rows : List ℕ) (v w : ℕ) (e : Entry g ids rows v w) (buffer : List ℕ) (long : length buffer ≡ file_letters g)
    (wide to n : ℕ) (starts : List ℕ) (at : wide ≡ moved_by ids w g.d) (fits : wide ≤ g.l) (begins : to ≡ base g v w + wide)
    (all : n ≡ 1 + (g.d - v)) (done : ColumnsSeen g ids v w wide (g.d - v) starts) where
  -- no column is moved further than the last
  least : (u : ℕ) → 1 ≤ u → u ≤ g.d → moved_by ids w u ≤ wide
  least u lu hu = omega (arith, moves_rise g ids e.chosen w e.row (omega arith) u g.d lu hu)

  -- the runs lie in the buffer, and none before the part of the entry that is written
  run_fits : (j : ℕ) → j ≤ g.d - v → (to ≤ get_or starts j 0) × (get_or starts j 0 + (g.l - wide) ≤ length buffer)
  run_fits j h =
      ⊎_elim
      (λ none.
      let first : j ≡ 0 = omega arith in
      let same : get_or starts j 0 ≡ base g v w + wide = ap (λ i. get_or starts i 0) first ∙ done.own in
      (omega arith, omega (arith, entry_fits g e.chosen.group w v (omega arith) (omega (arith, e.chosen.group.k-high)) e.row (omega arith))))
      (λ later.
      let next : v < v + j = omega arith in
      let inside : v + j ≤ g.d = omega arith in
      let fit = entries_fit g ids rows v w e buffer long (v + j) next inside in
      (omega (arith, done.later j later h, least (v + j) (omega arith) inside, fit), omega (arith, done.later j later h, fit)))
      (le_or_lt j 0)

  pub blocks_inside : RunsInside starts n (g.l - wide) (length buffer) × NoneBefore starts n to
  blocks_inside = (
    record {
      some = omega arith;
      many = omega (arith, done.long, e.chosen.group.d_high, e.chosen.group.n-high);
      fits = λ u lo hi. (run_fits (u - 1) (omega arith)).1;
    },
    record { from = λ u lo hi. (run_fits (u - 1) (omega arith)).0 },
  )

  -- behind place wide the sum is the entry's own letter and those of all later columns
  sum_there :
      (p : ℕ) → wide < p → p ≤ g.l
      → sum_at buffer starts n (base g v w + (p - 1) - to) ≡ bit_xor (standing g buffer w v p) (from_next g ids buffer v w (g.d - v) p)
  unfolding sum_at
  sum_there p lo hi =
      ap (λ m. sum xors m (λ u. get_or buffer (run_start starts u + q) 0)) all
      ∙ sum_first xors (g.d - v) (λ u. get_or buffer (run_start starts u + q) 0)
      ∙ ap₂ bit_xor
      (ap (λ i. get_or buffer i 0) own ∙ sym (sequence_inside 0 buffer g.l (entry_number g.k w v) p (omega arith) hi))
      (sum_same xors (g.d - v) (λ j. get_or buffer (run_start starts (1 + j) + q) 0) (λ j. from_column g ids buffer v w (v + j) p)
      (λ j lj hj.
      let next : v < v + j = omega arith in
      let inside : v + j ≤ g.d = omega arith in
      ap (λ i. get_or buffer (get_or starts i 0 + q) 0) (back j)
      ∙ sym
      (source g ids rows v w e buffer long (v + j) next inside p (get_or starts j 0 + q) (omega (arith, least (v + j) (omega arith) inside)) hi
      (omega (arith, done.later j lj hj)))))
    where
      q : ℕ
      q = base g v w + (p - 1) - to

      own : get_or starts 0 0 + q ≡ base g v w + (p - 1)
      own = omega (arith, done.own)

      back : (j : ℕ) → 1 + j - 1 ≡ j
      back j = omega arith

  pub blocks_pulled :
      (after : List ℕ) → Laid buffer after to (to + (g.l - wide)) (λ i. sum_at buffer starts n (i - to))
      → Grown g v w wide g.l (from_next g ids buffer v w (g.d - v)) buffer after
  blocks_pulled after laid =
      laid_grown g v w wide g.l to (to + (g.l - wide)) (from_next g ids buffer v w (g.d - v)) (λ i. sum_at buffer starts n (i - to)) buffer after
      e.chosen.group e.row (omega arith) (omega arith) begins (omega arith) laid sum_there
