-- `standing::end_stands` meets its contract: past the fifth byte nothing stands, and before it the end's own byte does.
use Prim.Native.Nat.{◌≤◌, ◌<◌}
use mathlib.Core.Path.{ap, ◌∙◌}
use native.Mathlib.Omega.{arith}
use borrow.Author.Tests.{lt-ltb, le-ltb}
use lib.Dec.{eqb}
use Rattle.records.specs.Records.{end_size}
use Rattle.records.specs.Steps.Places.{end_stands}
use Rattle.record_bytes.proofs.end_stands.Goals as goal

pub returns-then-offset-ge-END_SIZE : goal.returns-then-offset-ge-END_SIZE
unfolding end_stands
returns-then-offset-ge-END_SIZE c =
    let past : end_size ≤ c.args.offset = omega arith in simp (le-ltb _ end_size past)

pub returns : goal.returns
unfolding end_stands
returns c =
    let within : c.args.offset < end_size = omega arith in
    ap (eqb _) c.end_byte.ensures ∙ simp (lt-ltb _ end_size within)
