-- `solve` meets its contract: the tables are the system's, and the tiles leave the parts as they were.
use native.Mathlib.Omega.{arith}
use Prim.Native.Nat.{◌+◌}
use Rattle.one_turn.proofs.Tables.{nth_next}
use Rattle.solving.proofs.Tiles.{tables_of}
use Rattle.solving.proofs.solve.Goals as goal

pub delays-delays-requires : goal.delays-delays-requires
delays-delays-requires c =
    let system = c.requires.system in (
      system.shifts.some_nodes,
      system.shifts.few-nodes,
      c.exponents-exps.ensures.size,
      λ i lo h. omega (
        arith,
        nth_next c.exponents-exps.result i,
        c.exponents-exps.ensures.each (i + 1) (omega arith) (omega arith),
        system.shifts.small (i + 1) 2 (omega arith) (omega arith) (omega arith) (omega arith),
      ),
    )

pub invariant_of-system : goal.invariant_of-system
invariant_of-system c =
    let tables = tables_of c.args.s c.args.n c.args.rows.now _ _ c.requires.system c.exponents-exps.ensures c.delays-delays.ensures in
    record { solvable = c.requires.system; waits = tables.waits }

pub solve_tiles-requires : goal.solve_tiles-requires
solve_tiles-requires c =
    record { tables = tables_of c.args.s c.args.n c.args.rows.now _ _ c.requires.system c.exponents-exps.ensures c.delays-delays.ensures; letters = c.requires.letters }
