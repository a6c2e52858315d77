-- Letters compared part after part.
use mathlib.Core.Path.{◌≡◌, refl, sym, ap, ◌∙◌}
use mathlib.Core.List.{List}
use mathlib.Core.Logic.{⊎_elim}
use Prim.Native.Nat.{ℕ, ◌+◌, ◌-◌, ◌≤◌, ◌<◌}
use native.Mathlib.Nat.{zero-add}
use native.Mathlib.Omega.{arith}
use lib.ListN.{length, get_or, take, drop, length-drop}
use lib.Seq.{get_or-take, get_or-drop, length-take-le}
use Rattle.letters.proofs.Cases.{le_or_lt}
use Rattle.sequences.specs.Steps.MovedRuns.{run_letter, MovedRuns, AllSeen, SeenStarts, Holding}
use Rattle.sequences.specs.Moved.{moved}
use Rattle.sequences.proofs.MovedRuns.{seen_sum}
use Rattle.letters.specs.Algebra.{xors}
use Rattle.sums.specs.Sums.{run_start, sum_at}
use Rattle.matching.specs.Same.{SameTo, SameFor}
use Rattle.matching_windows.specs.Windows.{seen_letter}
use Rattle.matching.proofs.HowFar.{same_none, same_on, same_list}

-- the same right letters by another name
pub same_by :
    (held : List ℕ) (right other : ℕ → ℕ) (m : ℕ) → ((q : ℕ) → q < length held → right q ≡ other q) → SameFor held right m → SameFor held other m
same_by held right other m e s =
    record {
      to = record { within = s.to.within; same = λ q lo hi. s.to.same q lo hi ∙ e q (omega (arith, s.to.within)) };
      ends = λ h is. s.ends h (is ∙ sym (e m h));
    }

module _ (held : List ℕ) (right : ℕ → ℕ) (a e : ℕ) (order : a ≤ e) (fits : e ≤ length held) where
  abbrev cut : List ℕ
  cut = take (e - a) (drop a held)

  long : length cut ≡ e - a
  long = length-take-le (e - a) (drop a held) (rw length-drop (omega arith))

  at : (q : ℕ) → q < e - a → get_or cut q 0 ≡ get_or held (a + q) 0
  at q h = get_or-take (e - a) (drop a held) q 0 h ∙ get_or-drop a held q 0

  behind : (q : ℕ) → a ≤ q → q ≡ a + (q - a)
  behind q h = omega arith

  module _ (part : ℕ → ℕ) (m : ℕ) (is : (q : ℕ) → q < e - a → part q ≡ right (a + q)) (front : SameTo held right a) (s : SameFor cut part m) where
    -- the first m letters of the part
    onward : m ≤ e - a → SameTo held right (a + m)
    onward h =
        same_on held right a (a + m) a (omega arith) front
        (record {
          within = omega arith;
          same =
              λ q lo hi.
              ap (λ i. get_or held i 0) (behind q lo)
              ∙ sym (at (q - a) (omega arith))
              ∙ s.to.same (q - a) (omega arith) (omega arith)
              ∙ is (q - a) (omega arith)
              ∙ ap right (sym (behind q lo));
        })

    -- it ends within the part,
    pub ends_in_part : m < e - a → SameFor held right (a + m)
    ends_in_part h =
        record {
          to = onward (omega arith);
          ends = λ l same. s.ends (omega (arith, long)) (at m h ∙ same ∙ sym (is m h));
        }

    -- or goes on behind it
    pub whole_part : e - a ≤ m → SameTo held right e
    whole_part h =
        let full : m ≡ e - a = omega (arith, s.to.within, long) in
        let o = onward (omega arith) in
        record { within = fits; same = λ q lo hi. o.same q lo (omega arith) }

    -- the last part
    pub last_part : e ≡ length held → SameFor held right (a + m)
    last_part last =
        ⊎_elim (λ h. ends_in_part (omega arith))
        (λ h.
        record { to = onward (omega (arith, s.to.within, long)); ends = λ l same. omega (arith, s.to.within, long) })
        (le_or_lt (m + 1) (e - a))

-- what the window sees from index a on
pub seen_on :
    (from starts leads : List ℕ) (n size skip a q : ℕ) → seen_letter from starts leads n size (skip + a) q ≡ seen_letter from starts leads n size skip (a + q)
unfolding seen_letter
seen_on from starts leads n size skip a q = ap (moved xors n (run_start leads) (run_letter from starts size)) further
  where
    further : q + 1 + (skip + a) ≡ a + q + 1 + skip
    further = omega arith

-- a block that holds the sum has the letters that the window sees
pub held_sum :
    (from starts leads : List ℕ) (n size skip : ℕ) (before block held : List ℕ) (m : ℕ) → Holding from starts leads n size skip before block
    → length before ≡ length held → SameFor held (λ q. get_or block q 0) m → SameFor held (seen_letter from starts leads n size skip) m
unfolding seen_letter
held_sum from starts leads n size skip before block held m h long s =
    same_by held (λ q. get_or block q 0) (seen_letter from starts leads n size skip) m (λ q l. h.summed.sums q (omega (arith, h.same_length))) s

pub held_sum_all :
    (from starts leads : List ℕ) (n size skip : ℕ) (before block held : List ℕ) → Holding from starts leads n size skip before block
    → length before ≡ length held → ((q : ℕ) → q < length held → get_or held (0 + q) 0 ≡ get_or block q 0)
    → SameFor held (seen_letter from starts leads n size skip) (length held)
held_sum_all from starts leads n size skip before block held h long all =
    held_sum from starts leads n size skip before block held (length held) h long (same_list held block all)

-- and so has the sum of the runs from where they are seen
pub sum_seen :
    (from starts leads seen : List ℕ) (n size skip : ℕ) (held : List ℕ) (m : ℕ) → MovedRuns starts leads n size (length from)
    → AllSeen leads n size skip 0 (length held) → SeenStarts starts leads n skip seen → SameFor held (sum_at from seen n) m
    → SameFor held (seen_letter from starts leads n size skip) m
unfolding seen_letter
sum_seen from starts leads seen n size skip held m r all w s =
    same_by held (sum_at from seen n) (seen_letter from starts leads n size skip) m
    (λ q h. seen_sum from starts leads seen n size skip (length held) r all w.later q h) s

-- the first part of the window, the middle, and the last: each goes on where the one before ends
module _ (held from starts leads : List ℕ) (n size a e : ℕ) (order : a ≤ e) (fits : e ≤ length held) where
  abbrev right : ℕ → ℕ
  right = seen_letter from starts leads n size 0

  abbrev part : ℕ → ℕ → List ℕ
  part x y = take (y - x) (drop x held)

  from_zero : (b q : ℕ) → seen_letter from starts leads n size b q ≡ right (b + q)
  from_zero b q = ap (λ s. seen_letter from starts leads n size s q) (sym (zero-add b)) ∙ seen_on from starts leads n size 0 b q

  module _ (m : ℕ) (s : SameFor (part 0 a) (seen_letter from starts leads n size 0) m) where
    first_whole : a ≤ m → SameTo held right a
    first_whole h = whole_part held right 0 a (omega arith) (omega arith) right m (λ q l. from_zero 0 q) (same_none held right) s (omega arith)

    module _ (all : a ≤ m) (k : ℕ) (t : SameFor (part a e) (seen_letter from starts leads n size a) k) where
      pub middle_ends : k < e - a → SameFor held right (a + k)
      middle_ends h = ends_in_part held right a e order fits (seen_letter from starts leads n size a) k (λ q l. from_zero a q) (first_whole all) t h

      pub last_ends :
          e - a ≤ k → (j : ℕ) → SameFor (part e (length held)) (seen_letter from starts leads n size e) j → SameFor held right (e + j)
      last_ends h j u =
          last_part held right e (length held) fits (omega arith) (seen_letter from starts leads n size e) j (λ q l. from_zero e q)
          (whole_part held right a e order fits (seen_letter from starts leads n size a) k (λ q l. from_zero a q) (first_whole all) t h) u refl
