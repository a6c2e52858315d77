-- The later columns taken out of one: of each entry run by run. The columns that are taken out stay as they are.
use mathlib.Core.Path.{◌≡◌, refl, sym, ap, ap₂, subst, ◌∙◌}
use mathlib.Core.List.{List}
use mathlib.Core.Logic.{⊎_elim}
use Prim.Native.Nat.{ℕ, ◌+◌, ◌-◌, ◌≤◌, ◌<◌, min}
use native.Mathlib.Omega.{arith}
use lib.Bits.{bit_xor}
use lib.ListN.{length, get_or, take, drop, length-drop}
use lib.Seq.{get_or-take, get_or-drop, length-take-le}
use Rattle.letters.specs.Algebra.{xors}
use Rattle.letters.specs.Runs.{added}
use Rattle.letters.proofs.Cases.{le_or_lt}
use Rattle.letters.proofs.Sums.{sum_same, sum_more, sum_none_terms}
use Rattle.system.proofs.System.{sequence_inside}
use Rattle.group.specs.declared.Group.{Group}
use Rattle.lengths.specs.Lengths.{file_letters}
use Rattle.matrix.specs.declared.senders.Senders.{Senders}
use Rattle.matrix.specs.Matrix.{matrix, entry_number}
use Rattle.matrix.proofs.Columns.{before_apart, entry_fits, entry_from_one}
use Rattle.matrix.proofs.Product.{corner, free, entries}
use Rattle.column_runs.specs.Steps.Runs.{standing, moved_by, seen_at, from_column, from_next, Entry, Grown}
use Rattle.column_runs.proofs.Growing.{added_sums, sequences_apart, base, laid_grown, grown_none, grown_again, grown_on}
use Rattle.column_runs.proofs.Moving.{rises}

-- an entry of an earlier column stands before one of a later
entry_before :
    (k w v y u : ℕ) → 1 ≤ k → 1 ≤ v → w ≤ min v k → v < u → 1 ≤ y → entry_number k w v < entry_number k y u
unfolding entry_number
entry_before k w v y u lk lv hw h ly = omega (arith, before_apart k v u lk lv h)

-- two buffers with the same later columns, as far as column v takes them out
module _ (g : Group) (ids : List ℕ) (v : ℕ) (before after : List ℕ)
    (same : (u p : ℕ) → v ≤ g.k → v < u → u ≤ g.d → standing g after v u p ≡ standing g before v u p) where
  same_column : (w u p : ℕ) → v < u → u ≤ g.d → from_column g ids after v w u p ≡ from_column g ids before v w u p
  same_column w u p later hu =
      ⊎_elim
      (λ low.
      free xors g after v u (seen_at ids w u p) (omega arith) low
      ∙ same u (seen_at ids w u p) low later hu
      ∙ sym (free xors g before v u (seen_at ids w u p) (omega arith) low))
      (λ high. corner xors g after v u (seen_at ids w u p) high (omega arith) ∙ sym (corner xors g before v u (seen_at ids w u p) high (omega arith)))
      (le_or_lt v g.k)

  pub same_next : (w p : ℕ) → from_next g ids after v w (g.d - v) p ≡ from_next g ids before v w (g.d - v) p
  same_next w p =
      sum_same xors (g.d - v) (λ j. from_column g ids after v w (v + j) p) (λ j. from_column g ids before v w (v + j) p)
      (λ j lo hi. same_column w (v + j) p (omega arith) (omega arith))

module _ (g : Group) (ids rows : List ℕ) (v w : ℕ) (e : Entry g ids rows v w) where
  -- what is added into the entry leaves the later columns as they are
  later_kept : (from to : ℕ) (more : ℕ → ℕ) (before after : List ℕ) → Grown g v w from to more before after → (u p : ℕ) → v ≤ g.k → v < u → u ≤ g.d → standing g after v u p ≡ standing g before v u p
  later_kept from to more before after grown u p low later hu = grown.there v u p (omega arith) hu (omega arith) (omega arith) (λ q z. omega arith)

  module _ (buffer : List ℕ) (long : length buffer ≡ file_letters g) (u : ℕ) (later : v < u) (hu : u ≤ g.d) where
    -- the entry ends before the later one starts
    pub entries_fit : (base g v w + g.l ≤ base g u v) × (base g u v + g.l ≤ length buffer)
    entries_fit = (
      sequences_apart g.l (entry_number g.k w v) (entry_number g.k v u) (entry_from_one g.k w v e.row) (entry_before g.k w v v u (omega arith) (omega arith) (omega arith) later (omega arith)),
      omega (arith, entry_fits g e.chosen.group v u (omega arith) hu (omega arith) (omega arith)),
    )

    seen : (p : ℕ) → seen_at ids w u p ≡ p - moved_by ids w u
    seen p = omega (arith, rises g ids e.chosen w e.row (omega arith) w u e.row (omega arith))

    -- nothing of it lies before the place that it is moved to
    not_yet : (p : ℕ) → p ≤ moved_by ids w u → from_column g ids buffer v w u p ≡ 0
    not_yet p h = ap (matrix xors g buffer v u) nowhere ∙ (entries xors g buffer u).nothing_below v
      where
        nowhere : seen_at ids w u p ≡ 0
        nowhere = omega (arith, seen p)

    -- and from there on it lies letter by letter
    pub source : (p i : ℕ) → moved_by ids w u < p → p ≤ g.l → i + moved_by ids w u ≡ base g u v + (p - 1) → from_column g ids buffer v w u p ≡ get_or buffer i 0
    source p i lo hi at =
        ap (matrix xors g buffer v u) (seen p)
        ∙ free xors g buffer v u (p - moved_by ids w u) (omega arith) e.low
        ∙ sequence_inside 0 buffer g.l (entry_number g.k v u) (p - moved_by ids w u) (omega arith) (omega arith)
        ∙ ap (λ n. get_or buffer n 0) place
      where
        place : base g u v + (p - moved_by ids w u - 1) ≡ i
        place = omega arith

    -- one later column, up to a place, as the code has it: how far it is moved, and two starts
    module _ (end moved start from : ℕ) (he : end ≤ g.l) (em : moved ≡ moved_by ids w u) (es : start ≡ base g v w) (ef : from ≡ base g u v) where
      pub run_short : end ≤ moved → Grown g v w 0 end (from_column g ids buffer v w u) buffer buffer
      run_short h = grown_none g v w end (from_column g ids buffer v w u) buffer (λ p hp. not_yet p (omega arith))

      abbrev run : List ℕ
      run = take (end - moved) (drop from buffer)

      run_length : length run ≡ end - moved
      run_length = length-take-le (end - moved) (drop from buffer) (rw length-drop (omega (arith, entries_fit)))

      pub run_pulled : (after : List ℕ) → moved < end → after ≡ added xors buffer (start + moved) run → Grown g v w 0 end (from_column g ids buffer v w u) buffer after
      run_pulled after h is =
          grown_on g v w moved end (from_column g ids buffer v w u) (from_column g ids buffer v w u) buffer buffer after (omega arith)
          (grown_none g v w moved (from_column g ids buffer v w u) buffer (λ p hp. not_yet p (omega arith)))
          (subst (λ xs. Grown g v w moved end (from_column g ids buffer v w u) buffer xs) (sym is)
          (laid_grown g v w moved end (start + moved) (start + moved + length run) (from_column g ids buffer v w u) (λ i. bit_xor (get_or buffer i 0) (get_or run (i - (start + moved)) 0))
          buffer (added xors buffer (start + moved) run) e.chosen.group e.row (omega arith) he (omega arith) (omega (arith, run_length))
          (added_sums buffer run (start + moved) (omega (arith, run_length, entries_fit)))
          (λ p lo hi.
          ap₂ bit_xor (sym (sequence_inside 0 buffer g.l (entry_number g.k w v) p (omega arith) (omega arith)))
          (get_or-take (end - moved) (drop from buffer) (base g v w + (p - 1) - (start + moved)) 0 (omega arith)
          ∙ get_or-drop from buffer (base g v w + (p - 1) - (start + moved)) 0
          ∙ sym (source p (from + (base g v w + (p - 1) - (start + moved))) (omega arith) (omega arith) (omega arith))))))
          (λ p. refl)

  -- the loop over the later columns: none yet, and one more
  pub runs_none : (end : ℕ) (buffer : List ℕ) → Grown g v w 0 end (from_next g ids buffer v w (v - v)) buffer buffer
  runs_none end buffer =
      grown_none g v w end (from_next g ids buffer v w (v - v)) buffer
      (λ p hp. ap (λ m. from_next g ids buffer v w m p) none ∙ sum_none_terms xors (λ j. from_column g ids buffer v w (v + j) p))
    where
      none : v - v ≡ 0
      none = omega arith

  pub runs_next :
      (end u : ℕ) (buffer mid after : List ℕ) → v ≤ u → u < g.d → Grown g v w 0 end (from_next g ids buffer v w (u - v)) buffer mid
      → Grown g v w 0 end (from_column g ids mid v w (u + 1)) mid after → Grown g v w 0 end (from_next g ids buffer v w (u + 1 - v)) buffer after
  runs_next end u buffer mid after h hu done run =
      grown_again g v w end (from_next g ids buffer v w (u - v)) (from_column g ids mid v w (u + 1)) (from_next g ids buffer v w (u + 1 - v)) buffer mid after done run
      (λ p.
      ap (λ m. from_next g ids buffer v w m p) one
      ∙ sum_more xors (u - v) (λ j. from_column g ids buffer v w (v + j) p)
      ∙ ap (bit_xor (from_next g ids buffer v w (u - v) p))
      (ap (λ n. from_column g ids buffer v w n p) there
      ∙ sym (same_column g ids v buffer mid (later_kept 0 end (from_next g ids buffer v w (u - v)) buffer mid done) w (u + 1) p (omega arith) (omega arith))))
    where
      one : u + 1 - v ≡ u - v + 1
      one = omega arith

      there : v + (u - v + 1) ≡ u + 1
      there = omega arith

  -- up to a place, and from there on
  pub entry_pulled :
      (wide : ℕ) (buffer mid after : List ℕ) → wide ≤ g.l → Grown g v w 0 wide (from_next g ids buffer v w (g.d - v)) buffer mid
      → Grown g v w wide g.l (from_next g ids mid v w (g.d - v)) mid after → Grown g v w 0 g.l (from_next g ids buffer v w (g.d - v)) buffer after
  entry_pulled wide buffer mid after h first rest =
      grown_on g v w wide g.l (from_next g ids buffer v w (g.d - v)) (from_next g ids mid v w (g.d - v)) buffer mid after h first rest
      (same_next g ids v buffer mid (later_kept 0 wide (from_next g ids buffer v w (g.d - v)) buffer mid first) w)

-- an entry of the chosen nodes
pub senders_entry : (s : Senders) (v w : ℕ) → 1 ≤ w → w ≤ v → v ≤ s.g.k → Entry s.g s.ids.now s.rows.now v w
senders_entry s v w row upper low = record { chosen = s.chosen; shifts = s.shifts; row = row; upper = upper; low = low }
