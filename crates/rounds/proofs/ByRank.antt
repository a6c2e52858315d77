-- Numbers in a list by rank and by index, and the delays of even rows.
use native.Mathlib.Omega.{arith}
use mathlib.Core.Path.{◌≡◌, sym, ap, ap₂, ◌∙◌}
use mathlib.Core.List.{List}
use Prim.Native.Nat.{ℕ, ◌+◌, ◌-◌, ◌≤◌, ◌<◌}
use mathlib.Core.Logic.{⊎_elim}
use lib.ListN.{length, get_or, set}
use lib.Seq.{get_or-set_same, get_or-set_other}
use borrow.Author.Count.{below_more}
use Rattle.letters.proofs.Cases.{le_or_lt}
use Rattle.tiles.proofs.Even.{delay_even}
use Rattle.system.specs.Order.{delay}
use Rattle.one_turn.specs.Tables.{nth, even_shift}
use Rattle.one_turn.proofs.Tables.{nth_next, exponents_even}
use Rattle.rounds.specs.Steps.Rounds.{Ended}

-- the delay of the rank after index b: its exponent more than the one before it
pub next_delay :
    (s : ℕ) (exps : List ℕ) (b wait : ℕ) → 1 ≤ b → b < s → wait ≡ delay (even_shift exps) (b - 1 + 1) → wait + get_or exps b 0 ≡ delay (even_shift exps) (b + 1)
next_delay s exps b wait lo hi e =
    ap₂ ◌+◌ (e ∙ ap (delay (even_shift exps)) back) (sym (nth_next exps b)) ∙ sym (delay_even s (even_shift exps) (nth exps) (exponents_even s exps) b lo (omega arith))
  where
    back : b - 1 + 1 ≡ b
    back = omega arith

-- an array of numbers whose first are bounded, and one more
pub bounded_more :
    (xs : List ℕ) (i x : ℕ) (f : ℕ → ℕ) → i < length xs → ((j : ℕ) → j < i → get_or xs j 0 ≤ f j) → x ≤ f i
    → (j : ℕ) → j < i + 1 → get_or (set xs i x) j 0 ≤ f j
bounded_more xs i x f h all here =
    below_more (λ (j : ℕ). get_or (set xs i x) j 0 ≤ f j) i (λ j l. rw (get_or-set_other xs i j x 0 (λ same. omega arith)) (all j l))
    (rw (get_or-set_same xs i x 0 h) here)

-- while rounds are left, some rank has not ended
pub still_below :
    (s n : ℕ) (delays : List ℕ) (hi below done : ℕ) → 1 ≤ s → Ended n hi delays hi done below → hi ≤ s → done < n + get_or delays (s - 1) 0 → below < s
still_below s n delays hi below done some ended fits left =
    ⊎_elim
    (λ all.
    let last : below ≡ s = omega (arith, ended.within) in
    absurd (omega (arith, ended.ended (omega arith), ap (nth delays) last)))
    (λ h. h) (le_or_lt s below)
