-- Rows of shifts of some nodes are what the solver wants, under any rule with refined increasing differences: falling ids give them their order.
use mathlib.Core.Path.{◌≡◌, refl, sym, ap₂, ◌∙◌}
use mathlib.Core.List.{List}
use Prim.Native.Nat.{ℕ, ◌+◌, ◌-◌, ◌*◌, ◌/◌, ◌%◌, ◌^◌, ◌≤◌}
use native.Mathlib.Omega.{arith}
use lib.ListN.{length, get_or}
use Rattle.letters.specs.Algebra.{xors}
use Rattle.shifts.specs.Rule.{ShiftRule, Refined}
use Rattle.system.specs.System.{part, sequence}
use Rattle.system.specs.Order.{Falling, ruled}
use Rattle.system.specs.Count.{additions}
use Rattle.equation.specs.Rows.{shift_in, Solvable}
use Rattle.equation.proofs.Ruled.{ruled_solvable}
use Rattle.system.proofs.System.{part_shifts}
use Rattle.system.proofs.Terms.{additions_same}
use Rattle.sequences.specs.Lists.{ranked}
use Rattle.sequences.specs.Parts.{parts_of}
use Rattle.sequences.specs.Steps.Rows.{RowsOf}
use Rattle.sequences.proofs.Parts.{is_parts}

-- So many ids that the solver can take under a rule: they count from 1 and fall, and their shifts are small.
pub record Ranks (rule : ShiftRule) (wanted : ℕ) (ids : List ℕ) : Type 0 where
  pub refined : Refined rule
  pub many : length ids ≡ wanted
  pub few : wanted ≤ 16
  pub falling : Falling wanted (ranked ids)
  pub small : (b a : ℕ) → 1 ≤ b → b ≤ wanted → 1 ≤ a → a ≤ wanted → rule (ranked ids b) a ≤ 65535
  pub even : (b a : ℕ) → 1 ≤ b → b ≤ wanted → 1 ≤ a → a ≤ wanted → rule (ranked ids b) a ≡ rule (ranked ids b) 2 * (a - 1)

module _ (rule : ShiftRule) (ids rows : List ℕ) (r : RowsOf rule ids rows) where
  pub rows_shift : (b a : ℕ) → 1 ≤ b → b ≤ length ids → 1 ≤ a → a ≤ 16 → shift_in rows b a ≡ rule (ranked ids b) a
  unfolding shift_in ranked
  rows_shift b a lb hb la ha =
      r.shifts ((b - 1) * 16 + (a - 1)) (omega arith) ∙ ap₂ (λ q m. rule (get_or ids q 0) m) row column
    where
      row : ((b - 1) * 16 + (a - 1)) / 16 ≡ b - 1
      row = omega arith

      column : ((b - 1) * 16 + (a - 1)) % 16 + 1 ≡ a
      column = omega arith

  module _ (wanted : ℕ) (ranks : Ranks rule wanted ids) (s : ℕ) (some : 1 ≤ s) (fits : s ≤ wanted) where
    -- in the first s rows and columns
    same : (b a : ℕ) → 1 ≤ b → b ≤ s → 1 ≤ a → a ≤ s → shift_in rows b a ≡ ruled rule (ranked ids) b a
    same b a lb hb la ha = rows_shift b a lb (omega (arith, ranks.many)) la (omega (arith, ranks.few))

    pub solvable : (n : ℕ) → 1 ≤ n → n ≤ 2 ^ 32 → Solvable s n rows
    solvable n ln hn =
        ruled_solvable s n rows rule (ranked ids) same ranks.refined
        (record {
          from_one = λ a lo hi. ranks.falling.from_one a lo (omega arith);
          falls = λ a b lo h hb. ranks.falling.falls a b lo h (omega arith);
        })
        (record { products = λ b a lb hb la ha. ranks.even b a lb (omega arith) la (omega arith) })
        (λ b a lb hb la ha. ranks.small b a lb (omega arith) la (omega arith)) some (omega (arith, ranks.few)) ln hn r.size

    pub charted_part :
        (x : ℕ → ℕ → ℕ) (b p : ℕ) → 1 ≤ b → b ≤ s → part xors s (shift_in rows) x b p ≡ part xors s (ruled rule (ranked ids)) x b p
    charted_part x b p lb hb = part_shifts xors s (shift_in rows) (ruled rule (ranked ids)) x b p lb hb same

    pub charted_additions :
        (n : ℕ) (x : ℕ → ℕ → ℕ) → additions s n (shift_in rows) x ≡ additions s n (ruled rule (ranked ids)) x
    charted_additions n x = additions_same s n (shift_in rows) (ruled rule (ranked ids)) x x same (λ a p la ha. refl)

    -- a buffer whose parts by the rows are what it held before has them by the rule
    pub charted_parts :
        (n : ℕ) (before after : List ℕ) → length before ≡ s * n
        → ((b p : ℕ) → 1 ≤ b → b ≤ s → 1 ≤ p → p ≤ n → part xors s (shift_in rows) (sequence 0 after n) b p ≡ sequence 0 before n b p)
        → parts_of xors s n (ruled rule (ranked ids)) after ≡ before
    charted_parts n before after long parts =
        is_parts xors s n (ruled rule (ranked ids)) after before long
        (λ b p lb hb lp hp. sym (charted_part (sequence 0 after n) b p lb hb) ∙ parts b p lb hb lp hp)
