-- The solver's statement allows one outcome: what it leaves has parts that are given, so by the solving fact its letters are given too.
use mathlib.Core.Path.{◌≡◌, sym, ap, ◌∙◌}
use mathlib.Core.List.{List}
use Prim.Native.Nat.{ℕ, ◌+◌, ◌-◌, ◌*◌, ◌/◌, ◌%◌, ◌≤◌, ◌<◌}
use native.Mathlib.Nat.{div-add-mod', div-lt_iff_lt-mul, mod-lt}
use native.Mathlib.Omega.{arith}
use lib.ListN.{length, get_or}
use lib.Seq.{ext_get_or}
use Rattle.letters.specs.Algebra.{bytes}
use Rattle.system.specs.System.{sequence}
use Rattle.equation.specs.Rows.{shift_in, Solvable}
use Rattle.solving.specs.Solver.{Solved}
use Rattle.system.proofs.OneSolution.{one_solution}
use Rattle.system.proofs.System.{sequences, sequence_after}

-- two buffers of s sequences of n letters are the same if their sequences are
pub buffer_same :
    (s n : ℕ) (xs ys : List ℕ) → 1 ≤ n → length xs ≡ s * n → length ys ≡ s * n
    → ((a p : ℕ) → 1 ≤ a → a ≤ s → sequence 0 xs n a p ≡ sequence 0 ys n a p) → xs ≡ ys
buffer_same s n xs ys some lx ly same =
    ext_get_or 0 xs ys (lx ∙ sym ly)
    (λ i h.
    here xs i ∙ same (i / n + 1) (i % n + 1) (omega arith) (omega (arith, (div-lt_iff_lt-mul some).1 (below i h))) ∙ sym (here ys i))
  where
    below : (i : ℕ) → i < length xs → i < s * n
    below i h = omega arith

    index : (i : ℕ) → i / n * n + (i % n + 1 - 1) ≡ i
    index i = omega (arith, div-add-mod' i n)

    -- index i is that of letter i % n + 1 of sequence i / n + 1
    here : (zs : List ℕ) (i : ℕ) → get_or zs i 0 ≡ sequence 0 zs n (i / n + 1) (i % n + 1)
    here zs i =
        sym (sequence_after 0 zs n (i / n) (i % n + 1) (omega arith) (omega (arith, mod-lt i some))
        ∙ ap (λ j. get_or zs j 0) (index i))

pub one_outcome :
    (s n : ℕ) (rows before after after' : List ℕ) → Solvable s n rows → length before ≡ s * n
    → Solved s n rows before after → Solved s n rows before after' → after ≡ after'
one_outcome s n rows before after after' solvable long one two =
    buffer_same s n after after' solvable.some_letters (one.same_length ∙ long) (two.same_length ∙ long)
    (λ a p la ha.
    one_solution bytes s n (shift_in rows) solvable.ordered (sequence 0 after n) (sequence 0 after' n) (sequences 0 after n)
    (sequences 0 after' n) (λ b p lb hb lp hp. one.parts b p lb hb lp hp ∙ sym (two.parts b p lb hb lp hp)) a p la ha)
