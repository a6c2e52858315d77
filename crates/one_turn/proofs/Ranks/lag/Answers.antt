-- `Ranks::lag` meets its contract: the delays of the two ranks differ by the lag and the columns between them, so that nothing falls below zero and the product is no larger than a delay.
use native.Mathlib.Omega.{arith}
use Rattle.one_turn.proofs.Tables.{tables_fewer, lag_in_tables}
use Rattle.one_turn.proofs.Ranks.lag.Goals as goal

pub overflow_sub-result-3 : goal.overflow_sub-result-3
overflow_sub-result-3 c = let r = c.args.self.now in omega (arith, lag_in_tables _ c.args.a _ _ (tables_fewer _ c.args.b _ _ (omega arith) r.tables) (omega arith) (omega arith))

pub overflow_mul-result : goal.overflow_mul-result
overflow_mul-result c =
    let r = c.args.self.now in
    omega (arith, lag_in_tables _ c.args.a _ _ (tables_fewer _ c.args.b _ _ (omega arith) r.tables) (omega arith) (omega arith))

pub overflow_sub-result-6 : goal.overflow_sub-result-6
overflow_sub-result-6 c = let r = c.args.self.now in omega (arith, lag_in_tables _ c.args.a _ _ (tables_fewer _ c.args.b _ _ (omega arith) r.tables) (omega arith) (omega arith))

pub returns : goal.returns
returns c = let r = c.args.self.now in omega (arith, lag_in_tables _ c.args.a _ _ (tables_fewer _ c.args.b _ _ (omega arith) r.tables) (omega arith) (omega arith))
