-- Runs whose starts are the first of a longer list, as where an array has room for more.
use mathlib.Core.Path.{◌≡◌, sym, ap, subst, ◌∙◌}
use mathlib.Core.List.{List}
use Prim.Native.Nat.{ℕ, ◌+◌, ◌-◌, ◌≤◌}
use native.Mathlib.Omega.{arith}
use lib.ListN.{length, take}
use lib.Seq.{get_or-take, length-take-le}
use Rattle.letters.specs.Algebra.{xors, sum}
use Rattle.letters.specs.Places.{letter}
use Rattle.letters.proofs.Sums.{sum_same}
use Rattle.sums.specs.Sums.{run_start}
use Rattle.sequences.specs.Moved.{moved}
use Rattle.sequences.specs.Steps.MovedRuns.{run_letter, MovedRuns, AllSeen, Holding}

-- as the code cuts them off
abbrev pub first : ℕ → List ℕ → List ℕ
first n starts = take (n - 0) starts

module _ (starts leads : List ℕ) (n size : ℕ) (many : n ≤ length starts) where
  pub first_many : length (first n starts) ≡ n
  first_many = length-take-le (n - 0) starts (omega arith) ∙ none_off
    where
      none_off : n - 0 ≡ n
      none_off = omega arith

  -- they start where they did
  first_start : (u : ℕ) → 1 ≤ u → u ≤ n → run_start (first n starts) u ≡ run_start starts u
  first_start u lo hi = get_or-take (n - 0) starts (u - 1) 0 (omega arith)

  pub first_runs : (long : ℕ) → MovedRuns starts leads n size long → MovedRuns (first n starts) leads (length (first n starts)) size long
  first_runs long r =
      record {
        inside =
            record {
              some = omega (arith, first_many, r.inside.some);
              many = omega arith;
              fits = λ u lo hi. omega (arith, first_many, first_start u lo (omega (arith, first_many)), r.inside.fits u lo (omega (arith, first_many)));
            };
        few = omega (arith, first_many, r.few);
        led = omega (arith, first_many, r.led);
      }

  pub first_seen : (skip front back : ℕ) → AllSeen leads n size skip front back → AllSeen leads (length (first n starts)) size skip front back
  first_seen skip front back all = subst (λ m. AllSeen leads m size skip front back) (sym first_many) all

  -- and have the same sum
  pub first_sum :
      (from : List ℕ) (p : ℕ)
      → moved xors (length (first n starts)) (run_start leads) (run_letter from (first n starts) size) p ≡ moved xors n (run_start leads) (run_letter from starts size) p
  unfolding moved run_letter
  first_sum from p =
      ap (λ m. sum xors m (λ u. run_letter from (first n starts) size u (p - run_start leads u))) first_many
      ∙ sum_same xors n (λ u. run_letter from (first n starts) size u (p - run_start leads u)) (λ u. run_letter from starts size u (p - run_start leads u))
      (λ u lo hi. ap (λ i. letter 0 from i size (p - run_start leads u)) (first_start u lo hi))

  pub first_holding :
      (from : List ℕ) (skip : ℕ) (before after : List ℕ) → Holding from (first n starts) leads (length (first n starts)) size skip before after
      → Holding from starts leads n size skip before after
  first_holding from skip before after h =
      record {
        same_length = h.same_length;
        summed = record { sums = λ q l. h.summed.sums q l ∙ first_sum from (q + 1 + skip) };
      }
