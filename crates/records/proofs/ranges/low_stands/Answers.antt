-- `ranges::low_stands` meets its contract: a range of 256 numbers has them all, and else the two tests are the definition's own.
use mathlib.Core.Path.{◌≡◌, sym, ap₂, ◌∙◌}
use mathlib.Core.Bool.{true}
use Prim.Native.Nat.{ℕ, ◌+◌, ◌≤◌, ◌<◌}
use native.Mathlib.Omega.{arith}
use lib.Dec.{leb}
use borrow.Author.Tests.{le-leb, lt-leb}
use Rattle.records.specs.Steps.Ranges.{least_left, most_left, low_stands}
use Rattle.records.proofs.ranges.low_stands.Goals as goal

any : (lo hi byte : ℕ) → byte < 256 → lo + 255 ≤ hi → low_stands lo hi byte ≡ true
unfolding low_stands
any lo hi byte b w =
    let here : byte ≤ hi = omega arith in
    let left : least_left lo byte ≤ most_left hi byte = omega arith in
    rw (le-leb _ _ here, le-leb _ _ left)

pub returns-then-least-most : goal.returns-then-least-most
returns-then-least-most c = sym (any _ _ _ c.requires.1 c.if-least-most.true)

pub returns-then-most-byte : goal.returns-then-most-byte
unfolding low_stands
returns-then-most-byte c = simp (lt-leb _ _ c.if-most-byte.true)

pub returns : goal.returns
unfolding low_stands
returns c = ap₂ leb c.least_left.ensures.0 c.most_left.ensures ∙ sym (simp (le-leb _ _ c.if-most-byte.false))
