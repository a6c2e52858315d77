-- Stores one after another into an array fill it, however many numbers it has.
use mathlib.Core.Path.{◌≡◌, ap, ◌∙◌}
use mathlib.Core.List.{List, ◌++◌, append-nil}
use Prim.Native.Nat.{ℕ, ◌+◌}
use native.Mathlib.Omega.{arith}
use lib.ListN.{length, drop}
use lib.Seq.{sets, sets-eq, drop-length}

pub all_stored : (xs vs : List ℕ) → length xs ≡ length vs → sets xs 0 vs ≡ vs
all_stored xs vs e =
    let all : 0 + length vs ≡ length xs = omega arith in
    sets-eq vs xs 0 (omega arith) ∙ ap (λ n. vs ++ drop n xs) all ∙ ap (λ ys. vs ++ ys) (drop-length xs) ∙ append-nil vs
