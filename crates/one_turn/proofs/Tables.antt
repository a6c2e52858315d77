-- Laws of the small tables: rows that go up by exponents are even, so the theory of tiles speaks of them.
use mathlib.Core.Path.{◌≡◌, refl, ap, ◌∙◌}
use mathlib.Core.List.{List}
use Prim.Native.Nat.{ℕ, ◌+◌, ◌-◌, ◌*◌, ◌≤◌, ◌<◌}
use native.Mathlib.Nat.{mul-add}
use native.Mathlib.Omega.{arith}
use lib.ListN.{get_or}
use Rattle.system.specs.Order.{Ordered}
use Rattle.tiles.specs.Even.{Even, lag}
use Rattle.tiles.proofs.Even.{lag_is, exponents_fall}
use Rattle.one_turn.specs.Tables.{nth, even_shift, Tables}

-- the rank after index i
pub nth_next : (xs : List ℕ) (i : ℕ) → nth xs (i + 1) ≡ get_or xs i 0
nth_next xs i = ap (λ j. get_or xs j 0) back
  where
    back : i + 1 - 1 ≡ i
    back = omega arith

pub exponents_even : (s : ℕ) (exps : List ℕ) → Even s (even_shift exps) (nth exps)
exponents_even s exps = record { products = λ b a lb hb la ha. refl }

-- the exponents fall
pub exponents_apart :
    (s : ℕ) (exps : List ℕ) → Ordered s (even_shift exps) → (j b : ℕ) → 1 ≤ j → j < b → b ≤ s → nth exps b < nth exps j
exponents_apart s exps ordered = exponents_fall s (even_shift exps) (nth exps) (exponents_even s exps) ordered

-- the tables of fewer ranks
pub tables_fewer : (s r : ℕ) (exps delays : List ℕ) → r ≤ s → Tables s exps delays → Tables r exps delays
tables_fewer s r exps delays h w =
    record {
      few = omega (arith, w.few);
      exponents = w.exponents;
      waits = w.waits;
      ordered =
          record {
            from_lower = λ a b la l hb. w.ordered.from_lower a b la l (omega arith);
            from-higher = λ a b lb l ha. w.ordered.from-higher a b lb l (omega arith);
          };
      delayed = λ b lb hb. w.delayed b lb (omega arith);
    }

-- a lag is what the delays differ by, but for the columns between the two ranks
pub lag_in_tables :
    (b a : ℕ) (exps delays : List ℕ) → Tables b exps delays → 1 ≤ a → a ≤ b
    → (lag (even_shift exps) b a + nth exps b * (b - a)) + nth delays a ≡ nth delays b
lag_in_tables b a exps delays w la h =
    omega (
      arith,
      w.delayed a la h,
      w.delayed b (omega arith) (omega arith),
      lag_is b (even_shift exps) w.ordered b a (omega arith) (omega arith) la h,
      columns (nth exps b),
    )
  where
    columns : (e : ℕ) → e * (b - 1) ≡ e * (a - 1) + e * (b - a)
    columns e = ap (λ k. e * k) (omega arith) ∙ mul-add e (a - 1) (b - a)
