-- What counts of the places inside 1..n, read off where the place is.
use mathlib.Core.Path.{◌≡◌, refl}
use Prim.Native.Nat.{ℕ, ◌≤◌, ◌<◌}
use Rattle.letters.proofs.Places.{inside_true, inside_below, inside_above}
use Rattle.system.specs.Count.{within}

module _ (n p m : ℕ) where
  pub within_inside : 1 ≤ p → p ≤ n → within n p m ≡ m
  within_inside lo hi = rw (inside_true n p lo hi) refl

  pub within_below : p ≡ 0 → within n p m ≡ 0
  within_below e = rw (inside_below n p e) refl

  pub within_above : n < p → within n p m ≡ 0
  within_above h = rw (inside_above n p h) refl
