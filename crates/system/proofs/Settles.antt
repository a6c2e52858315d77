-- A step that reads only earlier letters settles: taken again and again from anything, each letter stays as it is once its time has passed. What comes of it is kept by the step, and nothing else is.
use mathlib.Core.Path.{◌≡◌, sym, ap, ◌∙◌}
use Prim.Native.Nat.{ℕ, zero, suc, ◌+◌, ◌-◌, ◌<◌}
use native.Mathlib.Nat.{add-zero, add-suc}
use native.Mathlib.Omega.{arith}

module _ {I A : Type 0} (time : I → ℕ) (step : (I → A) → I → A)
    (reads_earlier : (x y : I → A) (i : I) → ((j : I) → time j < time i → x j ≡ y j) → step x i ≡ step y i) where
  -- after r steps
  stage : (I → A) → ℕ → I → A
  stage start zero = start
  stage start (suc r) = step (stage start r)

  stays : (start : I → A) (r : ℕ) (i : I) → time i < r → stage start r i ≡ stage start (suc r) i
  unfolding stage
  stays start zero i h = absurd (omega arith)
  stays start (suc r) i h =
      reads_earlier (stage start r) (step (stage start r)) i (λ j l. stays start r j (omega arith))

  -- from its time on a letter is what it was then
  stays_on : (start : I → A) (i : I) (m : ℕ) → stage start (suc (time i)) i ≡ stage start (suc (time i) + m) i
  stays_on start i zero = ap (λ r. stage start r i) (sym (add-zero (suc (time i))))
  stays_on start i (suc m) =
      stays_on start i m
      ∙ stays start (suc (time i) + m) i (omega arith)
      ∙ ap (λ r. stage start r i) (sym (add-suc (suc (time i)) m))

  -- each letter as it is once its time has passed
  pub settled : (I → A) → I → A
  settled start i = stage start (suc (time i)) i

  pub settles : (start : I → A) (i : I) → settled start i ≡ step (settled start) i
  unfolding settled stage
  settles start i =
      reads_earlier (stage start (time i)) (settled start) i
      (λ j l. ap (λ r. stage start r j) (past (time j) (time i) l) ∙ sym (stays_on start j (time i - suc (time j))))
    where
      past : (m n : ℕ) → m < n → n ≡ suc m + (n - suc m)
      past m n h = omega arith

  -- two families that the step keeps are the same
  pub kept_once :
      (x y : I → A) → ((i : I) → x i ≡ step x i) → ((i : I) → y i ≡ step y i) → (r : ℕ) (i : I) → time i < r → x i ≡ y i
  kept_once x y ex ey zero i h = absurd (omega arith)
  kept_once x y ex ey (suc r) i h =
      ex i ∙ reads_earlier x y i (λ j l. kept_once x y ex ey r j (omega arith)) ∙ sym (ey i)
