-- Falling ids under a rule with refined increasing differences give the order of the letters: from one rank to the next the delay grows by a difference of that rank's own node, which is at least that of every later node and below that of every earlier one.
use mathlib.Core.Path.{◌≡◌, refl, sym, ap, ap₂, subst}
use mathlib.Core.Logic.{⊎_elim}
use Prim.Native.Nat.{ℕ, zero, suc, ◌+◌, ◌-◌, ◌≤◌, ◌<◌}
use native.Mathlib.Nat.{eq-or-lt_of_le}
use native.Mathlib.Numerals.{add-one}
use native.Mathlib.Decide.{le_ind}
use native.Mathlib.Omega.{arith}
use Rattle.shifts.specs.Rule.{ShiftRule, Refined}
use Rattle.system.specs.Order.{delay, Ordered, Falling, ruled}

-- rank 1 waits for nothing
pub delay_first : (t : ℕ → ℕ → ℕ) → delay t 1 ≡ 0
unfolding delay
delay_first t = refl

-- one rank more
pub delay_more : (t : ℕ → ℕ → ℕ) (u : ℕ) → 1 ≤ u → delay t (u + 1) ≡ delay t u + (t (u + 1) (u + 1) - t (u + 1) u)
unfolding delay
delay_more t zero h = absurd (omega arith)
delay_more t (suc u) h = rw add-one refl

-- what holds of a, and of each number after one of which it holds, holds from a on
upwards : (P : ℕ → Type 0) (a : ℕ) → P a → ((b : ℕ) → a ≤ b → P b → P (b + 1)) → (b : ℕ) → a ≤ b → P b
upwards P a start next = le_ind P start (λ b h p. subst P (add-one b) (next b h p))

-- what holds of each number from 1 to a, and of the one after, holds of each from 1 to that
pub one_more : (P : ℕ → Type 0) (a : ℕ) → ((k : ℕ) → 1 ≤ k → k ≤ a → P k) → P (a + 1) → (k : ℕ) → 1 ≤ k → k ≤ a + 1 → P k
one_more P a before here k lk hk =
    ⊎_elim (λ e. subst P (sym e) here) (λ l. before k lk (omega arith)) (eq-or-lt_of_le hk)

-- a later rank waits no less
pub delay_rises : (t : ℕ → ℕ → ℕ) (a b : ℕ) → 1 ≤ a → a ≤ b → delay t a ≤ delay t b
delay_rises t a b la = upwards (λ (b : ℕ). delay t a ≤ delay t b) a (omega arith) (λ b h ih. omega (arith, delay_more t b (omega arith))) b

-- the delay reads the shifts of the ranks up to its own alone
pub delay_same :
    (t t' : ℕ → ℕ → ℕ) (s u : ℕ) → u ≤ s → ((b a : ℕ) → 1 ≤ b → b ≤ s → 1 ≤ a → a ≤ s → t b a ≡ t' b a)
    → delay t u ≡ delay t' u
unfolding delay
delay_same t t' s zero h e = refl
delay_same t t' s (suc zero) h e = refl
delay_same t t' s (suc (suc u)) h e =
    ap₂ ◌+◌ (delay_same t t' s (suc u) (omega arith) e)
    (ap₂ ◌-◌ (e (suc (suc u)) (suc (suc u)) (omega arith) h (omega arith) h) (e (suc (suc u)) (suc u) (omega arith) h (omega arith) (omega arith)))

-- so two shifts that agree at the ranks 1..s have one order
pub ordered_same :
    (t t' : ℕ → ℕ → ℕ) (s : ℕ) → ((b a : ℕ) → 1 ≤ b → b ≤ s → 1 ≤ a → a ≤ s → t b a ≡ t' b a) → Ordered s t → Ordered s t'
ordered_same t t' s e o =
    record {
      from_lower =
          λ a b la h hb. omega (
            arith,
            o.from_lower a b la h hb,
            e b b (omega arith) hb (omega arith) hb,
            e b a (omega arith) hb la (omega arith),
            delay_same t t' s a (omega arith) e,
            delay_same t t' s b hb e,
          );
      from-higher =
          λ a b lb h ha. omega (
            arith,
            o.from-higher a b lb h ha,
            e b b lb (omega arith) lb (omega arith),
            e b a lb (omega arith) (omega arith) ha,
            delay_same t t' s a ha e,
            delay_same t t' s b (omega arith) e,
          );
    }

-- s ranks are ordered, and so are fewer
pub ordered_fewer : (t : ℕ → ℕ → ℕ) (s m : ℕ) → m ≤ s → Ordered s t → Ordered m t
ordered_fewer t s m h o =
    record {
      from_lower = λ a b la l hb. o.from_lower a b la l (omega arith);
      from-higher = λ a b lb l ha. o.from-higher a b lb l (omega arith);
    }

module _ (rule : ShiftRule) (refined : Refined rule) (s : ℕ) (id : ℕ → ℕ) (falling : Falling s id) where
  -- node i moves the column after b no further than the node of that column's rank, where it is no higher than that
  step_low : (b i : ℕ) → 1 ≤ b → 1 ≤ i → i ≤ id (b + 1) → rule i (b + 1) + rule (id (b + 1)) b ≤ rule i b + rule (id (b + 1)) (b + 1)
  step_low b i lb li hi =
      ⊎_elim (λ e. omega (arith, ap (λ j. rule j b) e, ap (λ j. rule j (b + 1)) e))
      (λ l. omega (arith, refined.growing i (id (b + 1)) b (b + 1) li l lb (omega arith))) (eq-or-lt_of_le hi)

  -- so a node no higher than that of rank b moves columns a and b no further apart than the delays are
  low :
      (a : ℕ) → 1 ≤ a → (b : ℕ) → a ≤ b → b ≤ s → (i : ℕ) → 1 ≤ i → i ≤ id b
      → rule i b + delay (ruled rule id) a ≤ rule i a + delay (ruled rule id) b
  low a la =
      upwards (λ (b : ℕ). b ≤ s → (i : ℕ) → 1 ≤ i → i ≤ id b → rule i b + delay (ruled rule id) a ≤ rule i a + delay (ruled rule id) b) a
      (λ hb i li hi. omega arith)
      (λ b h ih hb i li hi.
      omega (
        arith,
        ih (omega arith) i li (omega (arith, falling.falls b (b + 1) (omega arith) (omega arith) hb)),
        step_low b i (omega arith) li hi,
        delay_more (ruled rule id) b (omega arith),
      ))

  -- and a node above those of the ranks after b moves columns b and a further apart
  high :
      (b : ℕ) → 1 ≤ b → (a : ℕ) → b + 1 ≤ a → a ≤ s
      → rule (id b) b + delay (ruled rule id) a < rule (id b) a + delay (ruled rule id) b
  high b lb =
      upwards (λ (a : ℕ). a ≤ s → rule (id b) b + delay (ruled rule id) a < rule (id b) a + delay (ruled rule id) b) (b + 1)
      (λ ha. omega (arith, next b (omega arith) ha, delay_more (ruled rule id) b lb))
      (λ a h ih ha. omega (arith, ih (omega arith), next a (omega arith) ha, delay_more (ruled rule id) a (omega arith)))
    where
      next :
          (a : ℕ) → b ≤ a → a + 1 ≤ s
          → (rule (id (a + 1)) (a + 1) + rule (id b) a < rule (id b) (a + 1) + rule (id (a + 1)) a) × (rule (id (a + 1)) a ≤ rule (id (a + 1)) (a + 1))
      next a h ha = (
        refined.growing (id (a + 1)) (id b) a (a + 1) (falling.from_one (a + 1) (omega arith) ha)
            (falling.falls b (a + 1) lb (omega arith) ha) (omega arith) (omega arith),
        refined.rising (id (a + 1)) a (a + 1) (falling.from_one (a + 1) (omega arith) ha) (omega arith) (omega arith),
      )

  pub falling_ordered : Ordered s (ruled rule id)
  falling_ordered =
      record {
        from_lower = λ a b la h hb. low a la b (omega arith) hb (id b) (falling.from_one b (omega arith) hb) (omega arith);
        from-higher = λ a b lb h ha. high b lb a (omega arith) ha;
      }
