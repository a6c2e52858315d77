-- `solve_tiles` meets its contract: after every tile the sequences are solved up to its last round, and after the last one all of them.
use mathlib.Core.Path.{◌≡◌}
use Prim.Native.Nat.{◌-◌, ◌^◌, ◌≤◌}
use lib.ListN.{length}
use Rattle.letters.specs.Algebra.{xors}
use Rattle.system.specs.System.{sequence}
use Rattle.equation.specs.Rows.{shift_in}
use Rattle.tiles.specs.Tile.{Through}
use Rattle.rounds.specs.Steps.Rounds.{Begun, Ended}
use Rattle.solving.proofs.solve_tiles.Given as goal

abbrev pub invariant-loop-done : goal.invariant-loop-done
invariant-loop-done l =
    let y = l.system in
    (length l.part ≡ length l.initial.part) × Begun y.s y.delays.now 0 l.done l.hi × Ended y.n l.hi y.delays.now 0 l.done l.below
    × Through xors y.s y.n (shift_in y.rows.now) (sequence 0 l.initial.part y.n) (sequence 0 l.part y.n) l.done × (l.done ≤ 2 ^ 33)

abbrev pub decreases-loop-done : goal.decreases-loop-done
decreases-loop-done l = l.rounds - l.done
