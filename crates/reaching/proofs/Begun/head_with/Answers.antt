-- `Begun::head_with` meets its contract: a head that is all in grows no more, and one of which no byte is in is read from those that come.
use mathlib.Core.Path.{sym}
use Prim.Native.Nat.{◌≤◌}
use native.Mathlib.Omega.{arith}
use Rattle.kinds.specs.Kinds.{head_size}
use Rattle.reaching.proofs.BytesBehind.{whole_grown}
use Rattle.reaching.proofs.Begun.head_with.Goals as goal

pub returns-then-head_size-at : goal.returns-then-head_size-at
returns-then-head_size-at c =
    let s = c in
    let long : head_size s.args.self.head.kind ≤ s.args.self.at = omega (arith, c.if-head_size-at.true, c.head_size.ensures) in
    sym (whole_grown s.args.self.head s.args.self.at (s.args.self.numbers.whole long) long _)

pub returns-then-at-eq0 : goal.returns-then-at-eq0
returns-then-at-eq0 c = rw c.if-at-eq0.true c.head_in.ensures

pub head_after-requires : goal.head_after-requires
head_after-requires c = (omega arith, omega (arith, c.head_size.ensures))

pub invariant_of-head_after : goal.invariant_of-head_after
invariant_of-head_after c = record { fits = (c.args.self.numbers.partly (omega (arith, c.if-head_size-at.false, c.head_size.ensures))).fits }
