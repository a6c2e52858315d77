-- Letters added into one entry of the buffer: what is laid over some of its places changes these alone, and additions one after another, or one beside another, come to one.
use mathlib.Core.Path.{◌≡◌, refl, sym, ap, ap₂, ◌∙◌}
use mathlib.Core.List.{List}
use mathlib.Core.Logic.{⊎_elim}
use Prim.Native.Nat.{ℕ, ◌+◌, ◌-◌, ◌*◌, ◌≤◌, ◌<◌, min}
use native.Mathlib.Nat.{add-mul, one-mul, mul-le-mul_right, eq-or-lt_of_le}
use native.Mathlib.Omega.{arith}
use lib.Bits.{bit_xor, xor_zero_r}
use lib.ListN.{length, get_or, get_or-eq_default}
use Rattle.letters.specs.Algebra.{xors}
use Rattle.letters.specs.Laid.{Laid}
use Rattle.letters.specs.Runs.{added}
use Rattle.letters.proofs.Cases.{le_or_lt}
use Rattle.letters.proofs.Places.{place_cases}
use Rattle.letters.proofs.Runs.{length_added, added_before, added_from, added_after}
use Rattle.system.specs.System.{sequence}
use Rattle.system.proofs.System.{index_of, sequence_inside, sequences}
use Rattle.group.specs.declared.Group.{Group}
use Rattle.group.specs.Ranges.{InRange}
use Rattle.matrix.specs.Matrix.{entry_number}
use Rattle.matrix.proofs.Columns.{entry_one, entry_from_one}
use Rattle.column_runs.specs.Steps.Runs.{standing, Grown}

-- a run added into a buffer lays sums there
pub added_sums :
    (xs ys : List ℕ) (at : ℕ) → at + length ys ≤ length xs
    → Laid xs (added xors xs at ys) at (at + length ys) (λ i. bit_xor (get_or xs i 0) (get_or ys (i - at) 0))
added_sums xs ys at fits =
    record {
      same_length = length_added xors xs at ys;
      before = λ i h. added_before xors xs at ys i h;
      laid = λ i lo hi. added_from xors xs at ys i lo (omega arith);
      after =
          λ i h.
          ⊎_elim
          (λ out. get_or-eq_default (added xors xs at ys) 0 (omega (arith, length_added xors xs at ys)) ∙ sym (get_or-eq_default xs 0 out))
          (λ short. added_after xors xs at ys i h short)
          (le_or_lt (length xs) i);
    }

-- sequence a ends before b starts
pub sequences_apart : (l a b : ℕ) → 1 ≤ a → a < b → (a - 1) * l + l ≤ (b - 1) * l
sequences_apart l a b lo h = omega (arith, mul-le-mul_right l (step a b lo h), add-mul (a - 1) 1 l, one-mul l)
  where
    step : (a b : ℕ) → 1 ≤ a → a < b → a - 1 + 1 ≤ b - 1
    step a b lo h = omega arith

-- a letter whose index has the same letter in both lists, if it has an index
same_letter :
    (xs ys : List ℕ) (l a p : ℕ) → (1 ≤ p → p ≤ l → get_or xs (index_of l a p) 0 ≡ get_or ys (index_of l a p) 0) → sequence 0 xs l a p ≡ sequence 0 ys l a p
same_letter xs ys l a p same =
    ⊎_elim (λ w. sequence_inside 0 xs l a p w.0 w.1 ∙ same w.0 w.1 ∙ sym (sequence_inside 0 ys l a p w.0 w.1))
    (λ out.
    ⊎_elim
    (λ z. ap (sequence 0 xs l a) z ∙ (sequences 0 xs l).nothing_below a ∙ sym (ap (sequence 0 ys l a) z ∙ (sequences 0 ys l).nothing_below a))
    (λ h. (sequences 0 xs l).nothing_above a p h ∙ sym ((sequences 0 ys l).nothing_above a p h)) out)
    (place_cases l p)

module _ (g : Group) (v w : ℕ) where
  -- the index at which the entry starts
  abbrev pub base : ℕ
  base = (entry_number g.k w v - 1) * g.l

  -- what is laid over places from + 1 .. to
  pub laid_grown :
      (from to a b : ℕ) (more letter : ℕ → ℕ) (before after : List ℕ) → InRange g → 1 ≤ w → w ≤ min v g.k → to ≤ g.l
      → a ≡ base + from → b ≡ base + to → Laid before after a b letter
      → ((p : ℕ) → from < p → p ≤ to → letter (base + (p - 1)) ≡ bit_xor (standing g before w v p) (more p)) → Grown g v w from to more before after
  laid_grown from to a b more letter before after r lw hw fits begins ends laid is =
      record {
        same_length = laid.same_length;
        here =
            λ p lo hi.
            sequence_inside 0 after g.l (entry_number g.k w v) p (omega arith) (omega arith)
            ∙ laid.laid (base + (p - 1)) (omega arith) (omega arith)
            ∙ is p lo hi;
        aside =
            λ p out.
            same_letter after before g.l (entry_number g.k w v) p
            (λ lo hi. ⊎_elim (λ low. laid.before (base + (p - 1)) (omega arith)) (λ high. laid.after (base + (p - 1)) (omega (arith, out high))) (le_or_lt p from));
        there =
            λ y x p lx hx ly hy other.
            same_letter after before g.l (entry_number g.k y x) p
            (λ lo hi.
            ⊎_elim
            (λ up.
            ⊎_elim
            (λ same. absurd (let z = entry_one g.k w v y x (omega arith) lw hw ly hy same in other (sym z.0) (sym z.1)))
            (λ past. laid.after (index_of g.l (entry_number g.k y x) p) (omega (arith, sequences_apart g.l (entry_number g.k w v) (entry_number g.k y x) (entry_from_one g.k w v lw) past)))
            (eq-or-lt_of_le up))
            (λ down. laid.before (index_of g.l (entry_number g.k y x) p) (omega (arith, sequences_apart g.l (entry_number g.k y x) (entry_number g.k w v) (entry_from_one g.k y x ly) down)))
            (le_or_lt (entry_number g.k w v) (entry_number g.k y x)));
      }

  -- where zeros are added nothing changes
  pub grown_none : (to : ℕ) (more : ℕ → ℕ) (before : List ℕ) → ((p : ℕ) → p ≤ to → more p ≡ 0) → Grown g v w 0 to more before before
  grown_none to more before none =
      record {
        same_length = refl;
        here = λ p lo hi. sym (xor_zero_r (standing g before w v p)) ∙ ap (bit_xor (standing g before w v p)) (sym (none p hi));
        aside = λ p out. refl;
        there = λ y x p lx hx ly hy other. refl;
      }

  -- one addition after another, at the same places
  pub grown_again :
      (to : ℕ) (f f' both : ℕ → ℕ) (before mid after : List ℕ) → Grown g v w 0 to f before mid → Grown g v w 0 to f' mid after
      → ((p : ℕ) → both p ≡ bit_xor (f p) (f' p)) → Grown g v w 0 to both before after
  grown_again to f f' both before mid after first second e =
      record {
        same_length = second.same_length ∙ first.same_length;
        here =
            λ p lo hi.
            second.here p lo hi
            ∙ ap (λ z. bit_xor z (f' p)) (first.here p lo hi)
            ∙ xors.assoc (standing g before w v p) (f p) (f' p)
            ∙ ap (bit_xor (standing g before w v p)) (sym (e p));
        aside = λ p out. second.aside p out ∙ first.aside p out;
        there = λ y x p lx hx ly hy other. second.there y x p lx hx ly hy other ∙ first.there y x p lx hx ly hy other;
      }

  -- one addition beside another, at later places
  pub grown_on :
      (mid to : ℕ) (f f' : ℕ → ℕ) (before between after : List ℕ) → mid ≤ to → Grown g v w 0 mid f before between → Grown g v w mid to f' between after
      → ((p : ℕ) → f' p ≡ f p) → Grown g v w 0 to f before after
  grown_on mid to f f' before between after order first second e =
      record {
        same_length = second.same_length ∙ first.same_length;
        here =
            λ p lo hi.
            ⊎_elim
            (λ low. second.aside p (λ h. absurd (omega arith)) ∙ first.here p lo low)
            (λ high. second.here p high hi ∙ ap₂ bit_xor (first.aside p (λ h. high)) (e p))
            (le_or_lt p mid);
        aside = λ p out. second.aside p (λ h. out (omega arith)) ∙ first.aside p (λ h. omega (arith, out h));
        there = λ y x p lx hx ly hy other. second.there y x p lx hx ly hy other ∙ first.there y x p lx hx ly hy other;
      }
