-- A run added where it overlaps a window is the run seen through that window: what lies outside the overlap is zero.
use mathlib.Core.Path.{◌≡◌, refl, sym, ap, subst, ◌∙◌}
use mathlib.Core.List.{List}
use mathlib.Core.Logic.{◌⊎◌, inl, inr, ⊎_elim}
use Prim.Native.Nat.{ℕ, ◌+◌, ◌-◌, ◌≤◌, ◌<◌, min}
use native.Mathlib.Omega.{arith}
use lib.Bits.{bit_xor, xor_zero_r}
use lib.ListN.{length, get_or, take, drop, length-drop}
use lib.Seq.{get_or-take, get_or-drop, length-take-le, take_all}
use Rattle.letters.specs.Algebra.{xors}
use Rattle.letters.specs.Places.{letter}
use Rattle.letters.specs.Runs.{added}
use Rattle.letters.proofs.Places.{place_cases, letter_inside, letter_zero, letter_above}
use Rattle.letters.proofs.Runs.{length_added, added_at}
use Rattle.sequences.specs.Steps.Windows.{Seen}

-- nothing is added where every place of the window is outside the run
pub seen_nothing :
    (run : List ℕ) (skip lead : ℕ) (into : List ℕ)
    → ((q : ℕ) → q < length into → (((q + 1 + skip) - lead ≡ 0) ⊎ (length run < (q + 1 + skip) - lead)))
    → Seen run skip lead into into
seen_nothing run skip lead into out =
    record {
      same_length = refl;
      letters =
          λ q h.
          sym (xor_zero_r (get_or into q 0))
          ∙ ap (bit_xor (get_or into q 0))
          (sym
          (⊎_elim (letter_zero 0 run 0 (length run) ((q + 1 + skip) - lead)) (letter_above 0 run 0 (length run) ((q + 1 + skip) - lead))
          (out q h)));
    }

-- the part of a run that overlaps the window, added where it is seen
pub seen_part :
    (run : List ℕ) (skip lead : ℕ) (into : List ℕ) (at from count : ℕ) → from + count ≤ length run → (at ≡ 0) ⊎ (from ≡ 0) → at + skip ≡ from + lead
    → ((q : ℕ) → q < length into → at ≤ q → count ≤ q - at → length run ≤ (q - at) + from)
    → Seen run skip lead into (added xors into at (take count (drop from run)))
seen_part run skip lead into at from count fits edge lined past =
    record {
      same_length = length_added xors into at (take count (drop from run));
      letters = λ q h. added_at xors into at (take count (drop from run)) q h ∙ ap (bit_xor (get_or into q 0)) (seen q h);
    }
  where
    long : length (take count (drop from run)) ≡ count
    long = length-take-le count (drop from run) (rw length-drop (omega arith))

    -- inside the part
    within : (q p p' : ℕ) → 1 ≤ p → p ≤ count → p' ≡ p + from
        → letter 0 (take count (drop from run)) 0 (length (take count (drop from run))) p ≡ letter 0 run 0 (length run) p'
    within q p p' lo hi e =
        letter_inside 0 (take count (drop from run)) 0 (length (take count (drop from run))) p lo (omega (arith, long))
        ∙ get_or-take count (drop from run) (0 + (p - 1)) 0 (omega arith)
        ∙ get_or-drop from run (0 + (p - 1)) 0
        ∙ ap (λ i. get_or run i 0) (index p p' lo e)
        ∙ sym (letter_inside 0 run 0 (length run) p' (omega arith) (omega arith))
      where
        index : (p p' : ℕ) → 1 ≤ p → p' ≡ p + from → from + (0 + (p - 1)) ≡ 0 + (p' - 1)
        index p p' lo e = omega arith

    seen : (q : ℕ) → q < length into
        → letter 0 (take count (drop from run)) 0 (length (take count (drop from run))) (q + 1 - at) ≡ letter 0 run 0 (length run) ((q + 1 + skip) - lead)
    seen q h =
        ⊎_elim
        (λ w. within q (q + 1 - at) ((q + 1 + skip) - lead) w.0 w.1 (omega arith))
        (λ out.
        ⊎_elim
        (λ z.
        letter_zero 0 (take count (drop from run)) 0 (length (take count (drop from run))) (q + 1 - at) z
        ∙ sym (⊎_elim (λ a. absurd (omega arith)) (λ f. letter_zero 0 run 0 (length run) ((q + 1 + skip) - lead) (omega arith)) edge))
        (λ above.
        letter_above 0 (take count (drop from run)) 0 (length (take count (drop from run))) (q + 1 - at) (omega (arith, long))
        ∙ sym (letter_above 0 run 0 (length run) ((q + 1 + skip) - lead) (omega (arith, past q h (omega arith) (omega arith)))))
        out)
        (place_cases count (q + 1 - at))

-- what a window further on sees, added from its first letter on
pub seen_window :
    (run into after : List ℕ) (behind count end : ℕ) → behind < length run → count ≡ min (length into) (length run - behind) → end ≡ behind + count
    → after ≡ added xors into 0 (take (end - behind) (drop behind run)) → Seen run behind 0 into after
seen_window run into after behind count end h c e is =
    let size : end - behind ≡ count = omega arith in
    subst (λ xs. Seen run behind 0 into xs) (sym (is ∙ ap (λ n. added xors into 0 (take n (drop behind run))) size))
    (seen_part run behind 0 into 0 behind count (omega arith) (inl refl) (omega arith) (λ q l a p. omega arith))

-- what a window sees of a run that starts further on
pub seen_at_lem :
    (run into after : List ℕ) (ahead count : ℕ) → ahead < length into → count ≡ min (length into - ahead) (length run)
    → after ≡ added xors into ahead (take (count - 0) (drop 0 run)) → Seen run 0 ahead into after
seen_at_lem run into after ahead count h c is =
    let size : count - 0 ≡ count = omega arith in
    subst (λ xs. Seen run 0 ahead into xs) (sym (is ∙ ap (λ n. added xors into ahead (take n (drop 0 run))) size))
    (seen_part run 0 ahead into ahead 0 count (omega arith) (inr refl) (omega arith) (λ q l a p. omega arith))

-- a run added whole
pub seen_whole : (run into after : List ℕ) (ahead : ℕ) → after ≡ added xors into ahead run → Seen run 0 ahead into after
seen_whole run into after ahead is =
    subst (λ xs. Seen run 0 ahead into xs) (sym (is ∙ ap (added xors into ahead) (sym (take_all (length run) run (omega arith)))))
    (seen_part run 0 ahead into ahead 0 (length run) (omega arith) (inr refl) (omega arith) (λ q l a p. omega arith))
