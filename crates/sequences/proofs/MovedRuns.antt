-- Runs that are moved right and summed: run by run, in one pass, and part after part of the window.
use mathlib.Core.Path.{◌≡◌, refl, sym, ap, ◌∙◌}
use mathlib.Core.List.{List}
use Prim.Native.Nat.{ℕ, ◌+◌, ◌-◌, ◌^◌, ◌≤◌, ◌<◌}
use native.Mathlib.Omega.{arith}
use lib.Bits.{bit_xor, xor_zero_r}
use lib.ListN.{length, get_or, take, drop}
use Rattle.letters.specs.Algebra.{xors, sum}
use Rattle.letters.specs.Places.{letter}
use Rattle.letters.specs.Laid.{Laid}
use Rattle.letters.proofs.Places.{letter_inside}
use Rattle.letters.proofs.Sums.{sum_same, sum_split, sum_none}
use Rattle.sums.specs.Sums.{run_start, sum_at, RunsInside}
use Rattle.sums.proofs.Sums.{fits_at}
use Rattle.sequences.specs.Moved.{moved}
use Rattle.sequences.specs.Steps.Windows.{Seen, Adds, Summed}
use Rattle.sequences.specs.Steps.MovedRuns.{run_letter, MovedRuns, AllSeen, SeenFrom, Holding}
use Rattle.sequences.proofs.Summing.{part_adds}

-- the code counts from 0
start_of_lem : (starts : List ℕ) (u : ℕ) → get_or starts u 0 ≡ run_start starts (u + 1)
start_of_lem starts u = ap (λ i. get_or starts i 0) back_one
  where
    back_one : u ≡ u + 1 - 1
    back_one = omega arith

-- one run more, as the window sees it
pub run_seen :
    (from starts leads : List ℕ) (n size skip u : ℕ) (before after : List ℕ) → MovedRuns starts leads n size (length from) → u < n
    → Seen (take (get_or starts u 0 + size - get_or starts u 0) (drop (get_or starts u 0) from)) skip (get_or leads u 0) before after
    → Adds (run_letter from starts size (u + 1)) skip (run_start leads (u + 1)) before after
unfolding run_letter
run_seen from starts leads n size skip u before after r h seen =
    part_adds from (run_letter from starts size (u + 1)) (get_or starts u 0) size (get_or starts u 0 + size) skip (get_or leads u 0) (run_start leads (u + 1)) before after
    (fits_at starts n size (length from) r.inside u h) refl (start_of_lem leads u) (λ p. ap (λ i. letter 0 from i size p) (start_of_lem starts u)) seen

module _ (from starts leads seen : List ℕ) (n size skip count : ℕ) (r : MovedRuns starts leads n size (length from)) (all : AllSeen leads n size skip 0 count)
    (later : (u : ℕ) → u < n → get_or seen u 0 ≡ get_or starts u 0 + (skip - get_or leads u 0)) where
  -- where run u is seen
  seen_at_start : (u : ℕ) → 1 ≤ u → u ≤ n → run_start seen u ≡ run_start starts u + (skip - run_start leads u)
  seen_at_start u lo hi = later (u - 1) (omega arith)

  -- the runs have so many letters from there on
  pub seen_inside : n ≤ length seen → RunsInside seen n count (length from)
  seen_inside many =
      record {
        some = r.inside.some;
        many = many;
        fits = λ u lo hi. omega (arith, seen_at_start u lo hi, r.inside.fits u lo hi, all.begun u lo hi, all.going);
      }

  -- the letters that stand there are those that the window sees
  seen_letter_lem :
      (u q : ℕ) → 1 ≤ u → u ≤ n → q < count → get_or from (run_start seen u + q) 0 ≡ run_letter from starts size u (q + 1 + skip - run_start leads u)
  unfolding run_letter
  seen_letter_lem u q lo hi h =
      ap (λ i. get_or from i 0) (place (run_start seen u) (run_start starts u) (run_start leads u) (seen_at_start u lo hi) (omega (arith, all.begun u lo hi)))
      ∙ sym (letter_inside 0 from (run_start starts u) size (q + 1 + skip - run_start leads u) (omega (arith, all.begun u lo hi)) (omega (arith, all.going)))
    where
      place : (s start lead : ℕ) → s ≡ start + (skip - lead) → lead ≤ skip → s + q ≡ start + (q + 1 + skip - lead - 1)
      place s start lead e h = omega arith

  pub seen_sum : (q : ℕ) → q < count → sum_at from seen n q ≡ moved xors n (run_start leads) (run_letter from starts size) (q + 1 + skip)
  unfolding sum_at moved
  seen_sum q h =
      sum_same xors n (λ u. get_or from (run_start seen u + q) 0) (λ u. run_letter from starts size u (q + 1 + skip - run_start leads u))
      (λ u lo hi. seen_letter_lem u q lo hi h)

  pub middle_summed : (before after : List ℕ) → length before ≡ count → Laid before after 0 (length before) (sum_at from seen n) → Holding from starts leads n size skip before after
  middle_summed before after long laid =
      record {
        same_length = laid.same_length;
        summed =
            record {
              sums =
                  λ q h.
                  laid.laid q (omega arith) (omega (arith, laid.same_length))
                  ∙ seen_sum q (omega (arith, laid.same_length));
            };
      }

-- the same sum by other names, and with sequences of zeros behind it
pub moved_as :
    (n m skip : ℕ) (shift shift' : ℕ → ℕ) (x y : ℕ → ℕ → ℕ) (buffer : List ℕ)
    → ((u : ℕ) → 1 ≤ u → u ≤ n → shift u ≡ shift' u) → ((u p : ℕ) → 1 ≤ u → u ≤ n → x u p ≡ y u p)
    → ((u p : ℕ) → n < u → u ≤ n + m → y u p ≡ 0) → Summed n skip shift x buffer → Summed (n + m) skip shift' y buffer
unfolding moved
moved_as n m skip shift shift' x y buffer shifts letters zeros s =
    record {
      sums =
          λ q h.
          s.sums q h
          ∙ sum_same xors n (λ u. x u (q + 1 + skip - shift u)) (λ u. y u (q + 1 + skip - shift' u))
          (λ u lo hi. letters u (q + 1 + skip - shift u) lo hi ∙ ap (λ i. y u (q + 1 + skip - i)) (shifts u lo hi))
          ∙ sym (sum_split xors n m (λ u. y u (q + 1 + skip - shift' u))
          ∙ ap (bit_xor (sum xors n (λ u. y u (q + 1 + skip - shift' u))))
          (sum_none xors m (λ i. y (n + i) (q + 1 + skip - shift' (n + i))) (λ i lo hi. zeros (n + i) (q + 1 + skip - shift' (n + i)) (omega arith) (omega arith)))
          ∙ xor_zero_r (sum xors n (λ u. y u (q + 1 + skip - shift' u))));
    }

-- no run is moved past the window's start, where all are seen from its start on
pub leads_at : (leads : List ℕ) (n size skip count : ℕ) → AllSeen leads n size skip 0 count → (u : ℕ) → u < n → get_or leads u 0 ≤ skip
leads_at leads n size skip count all u h = omega (arith, all.begun (u + 1) (omega arith) (omega arith), start_of_lem leads u)

-- so it can be told where each is seen from
pub seen_from :
    (starts leads : List ℕ) (n size skip count long : ℕ) → MovedRuns starts leads n size long → AllSeen leads n size skip 0 count → long < 2 ^ 64
    → SeenFrom starts leads n skip
seen_from starts leads n size skip count long r all room =
    record {
      many = r.inside.many;
      led = r.led;
      few = r.few;
      begun = leads_at leads n size skip count all;
      small = λ u h. omega (arith, fits_at starts n size long r.inside u h, all.going);
    }
