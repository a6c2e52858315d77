-- One column solved where it lies, as a part of the buffer: its entries are the part's sequences, and all others are as they were.
use mathlib.Core.Path.{◌≡◌, sym, ap, subst, ◌∙◌}
use mathlib.Core.List.{List}
use mathlib.Core.Logic.{⊎_elim}
use Prim.Native.Nat.{ℕ, ◌+◌, ◌-◌, ◌*◌, ◌≤◌, ◌<◌, min}
use native.Mathlib.Nat.{add-mul, mul-le-mul_right, add_assoc, eq-or-lt_of_le}
use native.Mathlib.Omega.{arith}
use lib.ListN.{length, get_or, take, drop, length-drop}
use lib.Seq.{get_or-take, get_or-drop, length-take-le}
use Rattle.letters.specs.Algebra.{xors}
use Rattle.letters.proofs.Cases.{le_or_lt}
use Rattle.letters.proofs.Places.{letter_same}
use Rattle.system.specs.System.{sequence}
use Rattle.solving.specs.Solver.{Solved}
use Rattle.system.proofs.System.{part_same, index_below}
use Rattle.shifts.specs.Rule.{t}
use Rattle.group.specs.declared.Group.{Group}
use Rattle.lengths.specs.Lengths.{file_letters}
use Rattle.matrix.specs.Matrix.{before, entry_number}
use Rattle.sequences.specs.Steps.Rows.{RowsOf}
use Rattle.column_runs.specs.Steps.Runs.{standing}
use Rattle.columns.specs.Steps.Columns.{Collected, Pulled}
use Rattle.solved_columns.specs.Steps.Recovery.{Column}
use Rattle.matrix.proofs.ChosenRanks.{ranks}
use Rattle.sequences.proofs.Charted.{charted_part}
use Rattle.matrix.proofs.Columns.{before_apart, before_all}
use Rattle.sequences.proofs.PutBack.{back, back_length, back_before, back_inside, back_after}
use Rattle.matrix.proofs.Reading.{shifts}

-- what was solved for as many sequences, by another name of that number
pub solved_as : (s s' n : ℕ) (rows lent solution : List ℕ) → s ≡ s' → Solved s n rows lent solution → Solved s' n rows lent solution
solved_as s s' n rows lent solution e solved = subst (λ m. Solved m n rows lent solution) e solved

-- where letter q + 1 of entry (v,u) stands: v - 1 sequences after the column's start
entry_index : (k l v u q : ℕ) → 1 ≤ v → (entry_number k v u - 1) * l + q ≡ before k u * l + ((v - 1) * l + q)
unfolding entry_number
entry_index k l v u q lv =
    ap (λ m. m * l + q) later ∙ ap (λ m. m + q) (add-mul (before k u) (v - 1) l) ∙ add_assoc (before k u * l) ((v - 1) * l) q
  where
    later : before k u + v - 1 ≡ before k u + (v - 1)
    later = omega arith

-- the letters of an entry lie between its column's start and its column's end
entry_within :
    (k l v u q : ℕ) → 1 ≤ v → v ≤ min u k → q < l
    → (before k u * l ≤ (entry_number k v u - 1) * l + q) × ((entry_number k v u - 1) * l + q < before k u * l + min u k * l)
entry_within k l v u q lv hv h = (
  omega (arith, entry_index k l v u q lv),
  omega (arith, entry_index k l v u q lv, index_below (min u k) l v (q + 1) lv hv (omega arith) (omega arith), place),
)
  where
    place : (v - 1) * l + (q + 1 - 1) ≡ (v - 1) * l + q
    place = ap (λ m. (v - 1) * l + m) back
      where
        back : q + 1 - 1 ≡ q
        back = omega arith

-- a column's letters end before a later column's start
columns_apart : (k l u x : ℕ) → 1 ≤ k → 1 ≤ u → u < x → before k u * l + min u k * l ≤ before k x * l
columns_apart k l u x lk lu h = omega (arith, mul-le-mul_right l (before_apart k u x lk lu h), add-mul (before k u) (min u k) l)

module _ (g : Group) (ids buffer : List ℕ) (collected : Collected g ids buffer) (u : ℕ) (lu : 1 ≤ u) (hu : u ≤ g.d) where
  abbrev s : ℕ
  s = min u g.k

  -- the column's letters lie in the buffer
  pub column_fits : before g.k u * g.l + s * g.l ≤ length buffer
  unfolding file_letters
  column_fits =
      omega (
        arith,
        columns_apart g.k g.l u (g.d + 1) (omega arith) lu (omega arith),
        collected.long,
        ap (λ m. m * g.l) (before_all g collected.chosen.group),
      )

  module _ (start end : ℕ) (starts : start ≡ before g.k u * g.l) (ends : end ≡ start + s * g.l) where
    abbrev lent : List ℕ
    lent = take (end - start) (drop start buffer)

    pub lent_size : length lent ≡ end - start
    lent_size = length-take-le (end - start) (drop start buffer) (rw length-drop (omega (arith, column_fits)))

    pub lent_length : length lent ≡ s * g.l
    lent_length = lent_size ∙ size
      where
        size : end - start ≡ s * g.l
        size = omega arith

    -- the part's sequences are the column's entries
    lent_entry : (v p : ℕ) → 1 ≤ v → v ≤ s → sequence 0 lent g.l v p ≡ standing g buffer v u p
    unfolding sequence
    lent_entry v p lv hv =
        letter_same 0 lent buffer ((v - 1) * g.l) ((entry_number g.k v u - 1) * g.l) g.l p
        (λ q h.
        get_or-take (end - start) (drop start buffer) ((v - 1) * g.l + q) 0 (omega (arith, entry_within g.k g.l v u q lv hv h, entry_index g.k g.l v u q lv))
        ∙ get_or-drop start buffer ((v - 1) * g.l + q) 0
        ∙ ap (λ i. get_or buffer i 0) (omega_index v q lv))
      where
        omega_index : (v q : ℕ) → 1 ≤ v → start + ((v - 1) * g.l + q) ≡ (entry_number g.k v u - 1) * g.l + q
        omega_index v q lv = omega (arith, entry_index g.k g.l v u q lv)

    module _ (solution : List ℕ) (long : length solution ≡ end - start) where
      -- the buffer with the part back in its place
      abbrev middle : List ℕ
      middle = back buffer solution start end (omega arith) (omega (arith, column_fits)) long

      pub middle_length : length middle ≡ length buffer
      middle_length = back_length buffer solution start end (omega arith) (omega (arith, column_fits)) long

      middle_own : (v p : ℕ) → 1 ≤ v → v ≤ s → standing g middle v u p ≡ sequence 0 solution g.l v p
      unfolding sequence
      middle_own v p lv hv =
          letter_same 0 middle solution ((entry_number g.k v u - 1) * g.l) ((v - 1) * g.l) g.l p
          (λ q h.
          ap (λ i. get_or middle i 0) (place v q lv)
          ∙ back_inside buffer solution start end (omega arith) (omega (arith, column_fits)) long 0 ((v - 1) * g.l + q)
          (omega (arith, entry_within g.k g.l v u q lv hv h, entry_index g.k g.l v u q lv)))
        where
          place : (v q : ℕ) → 1 ≤ v → (entry_number g.k v u - 1) * g.l + q ≡ start + ((v - 1) * g.l + q)
          place v q lv = omega (arith, entry_index g.k g.l v u q lv)

      middle_other :
          (v x p : ℕ) → 1 ≤ x → (x ≡ u → ⊥) → 1 ≤ v → v ≤ min x g.k → standing g middle v x p ≡ standing g buffer v x p
      unfolding sequence
      middle_other v x p lx ne lv hv =
          letter_same 0 middle buffer ((entry_number g.k v x - 1) * g.l) ((entry_number g.k v x - 1) * g.l) g.l p
          (λ q h.
          ⊎_elim
          (λ up.
          back_after buffer solution start end (omega arith) (omega (arith, column_fits)) long 0 ((entry_number g.k v x - 1) * g.l + q)
          (omega (arith, columns_apart g.k g.l u x (omega arith) lu (⊎_elim (λ e. absurd (ne (sym e))) (λ l. l) (eq-or-lt_of_le up)), entry_within g.k g.l v x q lv hv h)))
          (λ down.
          back_before buffer solution start end (omega arith) (omega (arith, column_fits)) long 0 ((entry_number g.k v x - 1) * g.l + q)
          (omega (arith, columns_apart g.k g.l x u (omega arith) lx down, entry_within g.k g.l v x q lv hv h)))
          (le_or_lt u x))

      -- the later columns were taken out of it before
      pub column_done :
          (rows came : List ℕ) → RowsOf t ids rows → Pulled g ids u s came buffer → Solved s g.l rows lent solution → Column g ids u came middle
      column_done rows came r pull solved =
          record {
            same_length = middle_length ∙ pull.same_length;
            solved =
                λ v p lv hv lp hp.
                part_same xors s (shifts ids) (shifts ids) (λ a. standing g middle a u) (sequence 0 solution g.l) v p
                (λ a la ha. middle_own a ((p + shifts ids v v) - shifts ids v a) la ha)
                ∙ sym (charted_part t ids rows r g.k (ranks g g.k ids collected.chosen (omega arith)) s (omega arith) (omega arith) (sequence 0 solution g.l) v p lv hv)
                ∙ solved.parts v p lv hv lp hp
                ∙ lent_entry v p lv hv
                ∙ pull.here v p lv hv lp hp;
            kept = λ v x p lx hx ne lv hv. middle_other v x p lx ne lv hv ∙ pull.there v x p lx hx lv hv (λ e. absurd (ne e));
          }
