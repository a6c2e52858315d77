-- `put_state` meets its contract: nine stores fill nine numbers.
use lib.ListN.{length-set}
use native.Mathlib.Omega.{arith}
use Rattle.c_answers.proofs.Stores.{all_stored}
use Rattle.c_state.specs.Words.{nine}
use Rattle.c_state.proofs.put_state.Goals as goal

pub bounds-into-4 : goal.bounds-into-4
bounds-into-4 c = simp length-set (omega arith)

pub bounds-into-5 : goal.bounds-into-5
bounds-into-5 c = simp length-set (omega arith)

pub bounds-into-6 : goal.bounds-into-6
bounds-into-6 c = simp length-set (omega arith)

pub bounds-into-7 : goal.bounds-into-7
bounds-into-7 c = simp length-set (omega arith)

pub bounds-into-8 : goal.bounds-into-8
bounds-into-8 c = simp length-set (omega arith)

pub returns : goal.returns
returns c =
    let a = c.args in all_stored a.into.now (nine a.state) c.requires
