-- How far letters are the right ones: none yet, one more, a part more, up to the first that isn't.
use mathlib.Core.Path.{◌≡◌, sym, ap, ◌∙◌}
use mathlib.Core.List.{List}
use mathlib.Core.Logic.{⊎_elim}
use Prim.Native.Nat.{ℕ, ◌+◌, ◌-◌, ◌≤◌, ◌<◌}
use native.Mathlib.Nat.{zero-add}
use native.Mathlib.Omega.{arith}
use lib.ListN.{length, get_or}
use Rattle.letters.specs.Steps.Rests.{widest_block}
use Rattle.letters.proofs.Cases.{le_or_lt}
use Rattle.sums.specs.Sums.{sum_at, BlockOf}
use Rattle.matching.specs.Same.{SamePart, SameTo, SameFor}

module _ (held : List ℕ) (right : ℕ → ℕ) where
  pub same_none : SameTo held right 0
  same_none = record { within = omega arith; same = λ q lo hi. absurd (omega arith) }

  -- the part behind them, or one that begins among them
  pub same_on : (a b m : ℕ) → a ≤ m → SameTo held right m → SamePart held right a b → SameTo held right b
  same_on a b m h front part =
      record {
        within = part.within;
        same = λ q lo hi. ⊎_elim (λ l. part.same q l hi) (λ l. front.same q (omega arith) (omega arith)) (le_or_lt a q);
      }

  -- there is no next one
  pub same_all : (m : ℕ) → SameTo held right m → length held ≤ m → SameFor held right m
  same_all m front h = record { to = front; ends = λ l e. omega arith }

-- all letters of another list
pub same_list : (held block : List ℕ) → ((q : ℕ) → q < length held → get_or held (0 + q) 0 ≡ get_or block q 0) → SameFor held (λ q. get_or block q 0) (length held)
same_list held block all =
    same_all held (λ q. get_or block q 0) (length held)
    (record { within = omega arith; same = λ q lo hi. ap (λ i. get_or held i 0) (sym (zero-add q)) ∙ all q hi }) (omega arith)

-- Of the first n letters of a block this many are those of `held`; all, if there are n.
pub record CountedSame (held block : List ℕ) (at n same : ℕ) : Type 0 where
  pub few : same ≤ n
  pub all : same ≡ n → (q : ℕ) → q < n → get_or held (at + q) 0 ≡ get_or block q 0

-- a block of the sum whose letters are all there
pub block_same :
    (held from starts : List ℕ) (n at : ℕ) (block : List ℕ) → at + widest_block ≤ length held → BlockOf from starts n at block
    → ((q : ℕ) → q < widest_block → get_or held (at + q) 0 ≡ get_or block q 0) → SamePart held (sum_at from starts n) at (at + widest_block)
block_same held from starts n at block fits b all =
    record {
      within = fits;
      same =
          λ q lo hi.
          ap (λ i. get_or held i 0) (behind q lo) ∙ all (q - at) (omega arith) ∙ b.letters (q - at) (omega arith) ∙ ap (sum_at from starts n) (sym (behind q lo));
    }
  where
    behind : (q : ℕ) → at ≤ q → q ≡ at + (q - at)
    behind q h = omega arith
