-- `solve_tile` meets its contract: what is read from before the tile is taken out, and what is left is solved by itself.
use native.Mathlib.Omega.{arith}
use Prim.Native.Nat.{◌+◌}
use Rattle.one_turn.proofs.Tables.{nth_next}
use Rattle.solving.proofs.Tiles.{tile_done}
use Rattle.solving.proofs.solve_tile.Goals as goal

pub starts-starts-requires-clause-begun : goal.starts-starts-requires-clause-begun
starts-starts-requires-clause-begun c =
    let t = c.args.tile.now in
    λ i lo h. omega (
      arith,
      nth_next t.system.delays.now i,
      t.system.waits.each (i + 1) (omega arith) (omega (arith, t.tile.few)),
      t.tile.begun (i + 1) (omega arith) (omega arith),
    )

pub returns : goal.returns
returns c =
    let t = c.args.tile.now in
    tile_done t.system.s t.system.n t.system.rows.now c.args.exps.now t.system.delays.now _ c.requires.tables t.done t.count t.below t.hi t.tile
    c.starts-starts.ensures t.system.solvable _ _ _ c.take_out.ensures c.solve.ensures.solved c.solve.ensures.only
