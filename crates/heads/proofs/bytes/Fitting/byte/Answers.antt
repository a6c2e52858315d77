-- `Fitting::byte` meets its contract: each offset has its byte, and numbers below 256 are bytes themselves.
use mathlib.Core.Path.{◌≡◌, ap, ◌∙◌}
use Prim.Native.Nat.{ℕ, ◌+◌, ◌-◌, ◌%◌, ◌<◌}
use native.Mathlib.Omega.{arith}
use lib.ListN.{get_or}
use Rattle.kinds.specs.Kinds.{head_size}
use Rattle.heads.specs.Heads.{head_record}
use Rattle.heads.proofs.bytes.Fitting.byte.Goals as goal

below_a_byte : (x : ℕ) → x < 256 → x % 256 ≡ x
below_a_byte x h = omega arith

pub later_byte-requires : goal.later_byte-requires
unfolding head_size
later_byte-requires c = omega arith

pub returns-in-0 : goal.returns-in-0
returns-in-0 c =
    let a = c.args in rw c.in-0.is (c.low.ensures ∙ below_a_byte a.self.head.kind a.self.fits.kind)

pub returns-in-1 : goal.returns-in-1
returns-in-1 c =
    let a = c.args in rw c.in-1.is (c.low-in-1.ensures ∙ below_a_byte a.self.head.group.n a.self.fits.n)

pub returns-in-2 : goal.returns-in-2
returns-in-2 c =
    let a = c.args in rw c.in-2.is (c.low-in-2.ensures ∙ below_a_byte a.self.head.group.k a.self.fits.k)

pub returns-in-3 : goal.returns-in-3
returns-in-3 c =
    let a = c.args in rw c.in-3.is (c.low-in-3.ensures ∙ below_a_byte a.self.head.group.d a.self.fits.d)

pub returns-in-4 : goal.returns-in-4
returns-in-4 c =
    let a = c.args in rw c.in-4.is (c.low-in-4.ensures ∙ below_a_byte a.self.head.node a.self.fits.node)

pub returns-in_default : goal.returns-in_default
returns-in_default c =
    let a = c.args in
    let e : 5 + (a.offset - 5) ≡ a.offset = omega arith in
    c.later_byte.ensures ∙ ap (λ i. get_or (head_record a.self.head) i 0) e
