-- Laws of even rows: what a step of one column, of one rank and of one lag comes to. Each of the s equations takes letters that come out earlier, so that no lag is below zero and its terms can be moved to either side.
use mathlib.Core.Path.{◌≡◌, sym, ap, ◌∙◌}
use mathlib.Core.Logic.{⊎_elim}
use Prim.Native.Nat.{ℕ, suc, ◌+◌, ◌-◌, ◌*◌, ◌≤◌, ◌<◌}
use native.Mathlib.Nat.{mul-add, mul-one, eq-or-lt_of_le}
use native.Mathlib.Decide.{le_ind}
use native.Mathlib.Numerals.{add-one}
use native.Mathlib.Omega.{arith}
use Rattle.letters.proofs.Cases.{le_or_lt}
use Rattle.system.specs.Order.{delay, Ordered}
use Rattle.system.proofs.Order.{delay_more}
use Rattle.tiles.specs.Even.{Even, lag, Lags}

-- In an ordered system a lag is how far back the letter lies that is read, with every term on its own side.
pub lag_is :
    (s : ℕ) (t : ℕ → ℕ → ℕ) → Ordered s t → (b a : ℕ) → 1 ≤ b → b ≤ s → 1 ≤ a → a ≤ s
    → lag t b a + (t b b + delay t a) ≡ t b a + delay t b
unfolding lag
lag_is s t o b a lb hb la ha = back (t b a + delay t b) (t b b + delay t a) (⊎_elim upper lower (le_or_lt b a))
  where
    back : (m k : ℕ) → k ≤ m → (m - k) + k ≡ m
    back m k h = omega arith

    upper : b ≤ a → t b b + delay t a ≤ t b a + delay t b
    upper h =
        ⊎_elim (λ e. omega (arith, ap (t b) e, ap (delay t) e)) (λ l. omega (arith, o.from-higher a b lb l ha)) (eq-or-lt_of_le h)

    lower : a < b → t b b + delay t a ≤ t b a + delay t b
    lower h = o.from_lower a b la h hb

-- an equation reads its own letter in its own round
pub lag_own : (t : ℕ → ℕ → ℕ) (b : ℕ) → lag t b b ≡ 0
unfolding lag
lag_own t b = omega arith

-- The place that an equation reads is, in rounds, lag b a rounds before its own
pub place_by_lag :
    (s : ℕ) (t : ℕ → ℕ → ℕ) → Ordered s t → (b a p : ℕ) → 1 ≤ b → b ≤ s → 1 ≤ a → a ≤ s
    → (p + t b b) - t b a ≡ ((delay t b + p) - lag t b a) - delay t a
place_by_lag s t o b a p lb hb la ha =
    moved p (t b b) (t b a) (delay t b) (delay t a) (lag t b a) (lag_is s t o b a lb hb la ha)
  where
    moved : (p own theirs db da l : ℕ) → l + (own + da) ≡ theirs + db → (p + own) - theirs ≡ ((db + p) - l) - da
    moved p own theirs db da l e = omega arith

module _ (s : ℕ) (t : ℕ → ℕ → ℕ) (e : ℕ → ℕ) (even : Even s t e) where
  -- from a column to the next
  pub even_step : (b a : ℕ) → 1 ≤ b → b ≤ s → 1 ≤ a → a + 1 ≤ s → t b (a + 1) ≡ t b a + e b
  even_step b a lb hb la ha =
      even.products b (a + 1) lb hb (omega arith) ha
      ∙ product (e b) a la
      ∙ ap (λ m. m + e b) (sym (even.products b a lb hb la (omega arith)))
    where
      product : (x a : ℕ) → 1 ≤ a → x * ((a + 1) - 1) ≡ x * (a - 1) + x
      product x a h = ap (λ m. x * m) (omega arith) ∙ mul-add x (a - 1) 1 ∙ ap (λ m. x * (a - 1) + m) (mul-one x)

  -- each rank waits for its exponent more than the one before it
  pub delay_even : (b : ℕ) → 1 ≤ b → b + 1 ≤ s → delay t (b + 1) ≡ delay t b + e (b + 1)
  delay_even b lb hb = omega (arith, delay_more t b lb, even_step (b + 1) b (omega arith) hb lb hb)

  module _ (ordered : Ordered s t) where
    falls_next : (a : ℕ) → 1 ≤ a → a + 1 ≤ s → e (a + 1) < e a
    falls_next a la ha =
        omega (
          arith,
          ordered.from-higher (a + 1) a la (omega arith) ha,
          delay_even a la ha,
          even_step a a la (omega arith) la ha,
        )

    -- the exponents fall
    pub exponents_fall : (a b : ℕ) → 1 ≤ a → a < b → b ≤ s → e b < e a
    exponents_fall a b la h =
        le_ind (λ (b : ℕ). b ≤ s → e b < e a) (λ hb. fall a la (omega arith))
        (λ b l ih hb. omega (arith, ih (omega arith), fall b (omega arith) (omega arith))) b h
      where
        fall : (a : ℕ) → 1 ≤ a → suc a ≤ s → e (suc a) < e a
        fall a la ha = rw (← add-one a) (falls_next a la (omega arith))

    -- so strides are at least 1
    pub stride : (j b : ℕ) → 1 ≤ j → j < b → b ≤ s → 1 ≤ e j - e b
    stride j b lj h hb = omega (arith, exponents_fall j b lj h hb)

    -- from a lag to the next
    pub lag_step : (b a : ℕ) → 1 ≤ b → b ≤ s → 1 ≤ a → a + 1 ≤ s → lag t b a + e b ≡ lag t b (a + 1) + e (a + 1)
    lag_step b a lb hb la ha =
        omega (
          arith,
          lag_is s t ordered b a lb hb la (omega arith),
          lag_is s t ordered b (a + 1) lb hb (omega arith) ha,
          even_step b a lb hb la ha,
          delay_even a la ha,
        )

    pub even_lags : (below hi : ℕ) → hi ≤ s → Lags below hi (lag t) e
    even_lags below hi few =
        record {
          own = λ b lb hb. lag_own t b;
          next =
              λ j b a lj hb hi' ha h.
              crossed (lag t b a) (lag t b (a + 1)) (e b) (e (a + 1)) (e j)
              (lag_step b a (omega arith) (omega arith) (omega arith) (omega arith))
              (no_higher j b (omega arith) hb (omega arith)) (no_higher j (a + 1) (omega arith) (omega arith) (omega arith));
        }
      where
        no_higher : (j b : ℕ) → 1 ≤ j → j ≤ b → b ≤ s → e b ≤ e j
        no_higher j b lj h hb =
            ⊎_elim (λ q. omega (arith, ap e q)) (λ l. omega (arith, exponents_fall j b lj l hb)) (eq-or-lt_of_le h)

        crossed : (l l' x y z : ℕ) → l + x ≡ l' + y → x ≤ z → y ≤ z → l + (z - y) ≡ l' + (z - x)
        crossed l l' x y z q hx hy = omega arith
