-- Rows that hold a rule's shifts at falling ids can be solved, if the rule has refined increasing differences.
use mathlib.Core.Path.{◌≡◌, sym, ap, ◌∙◌}
use mathlib.Core.Logic.{⊎_elim}
use mathlib.Core.List.{List}
use Prim.Native.Nat.{ℕ, ◌-◌, ◌*◌, ◌^◌, ◌≤◌}
use native.Mathlib.Nat.{mul-zero}
use native.Mathlib.Omega.{arith}
use lib.ListN.{length}
use Rattle.letters.proofs.Cases.{le_or_lt}
use Rattle.tiles.specs.Even.{Even}
use Rattle.shifts.specs.Rule.{ShiftRule, Refined}
use Rattle.system.specs.Order.{Falling, ruled}
use Rattle.equation.specs.Rows.{shift_in, Solvable}
use Rattle.system.proofs.Order.{falling_ordered, ordered_same}

-- the rows hold the shifts of the nodes of these ids
abbrev pub RowsHold : ℕ → List ℕ → ShiftRule → (ℕ → ℕ) → Type 0
RowsHold s rows rule id = (b a : ℕ) → 1 ≤ b → b ≤ s → 1 ≤ a → a ≤ s → shift_in rows b a ≡ rule (id b) a

module _ (s n : ℕ) (rows : List ℕ) (rule : ShiftRule) (id : ℕ → ℕ) (holds : RowsHold s rows rule id) where
  pub ruled_solvable :
      Refined rule → Falling s id → Even s (ruled rule id) (λ b. rule (id b) 2) → ((b a : ℕ) → 1 ≤ b → b ≤ s → 1 ≤ a → a ≤ s → rule (id b) a ≤ 65535) → 1 ≤ s → s ≤ 16 → 1 ≤ n → n ≤ 2 ^ 32
      → length rows ≡ 256 → Solvable s n rows
  ruled_solvable refined falling even small some few some_letters few_letters sixteen =
      record {
        some_letters = some_letters;
        few_letters = few_letters;
        shifts =
            record {
              some_nodes = some;
              few-nodes = few;
              sixteen_rows = sixteen;
              small = λ b a lb hb la ha. omega (arith, holds b a lb hb la ha, small b a lb hb la ha);
            };
        ordered =
            ordered_same (ruled rule id) (shift_in rows) s (λ b a lb hb la ha. sym (holds b a lb hb la ha))
            (falling_ordered rule refined s id falling);
        even = record { products = λ b a lb hb la ha. holds b a lb hb la ha ∙ even.products b a lb hb la ha ∙ second b a lb hb la ha };
      }
    where
      -- the exponent stands in the second column, if there is one; if there isn't, it is taken zero times
      second : (b a : ℕ) → 1 ≤ b → b ≤ s → 1 ≤ a → a ≤ s → rule (id b) 2 * (a - 1) ≡ shift_in rows b 2 * (a - 1)
      second b a lb hb la ha =
          ⊎_elim
          (λ one. let none : a - 1 ≡ 0 = omega arith in rw none (mul-zero (rule (id b) 2) ∙ sym (mul-zero (shift_in rows b 2))))
          (λ more. ap (λ m. m * (a - 1)) (sym (holds b 2 lb hb (omega arith) (omega arith))))
          (le_or_lt a 1)
