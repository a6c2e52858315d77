-- `put_head` meets its contract: seven stores fill seven numbers.
use lib.ListN.{length-set}
use native.Mathlib.Omega.{arith}
use Rattle.c_answers.proofs.Stores.{all_stored}
use Rattle.c_judgment.specs.Judgments.{seven}
use Rattle.c_judgment.proofs.put_head.Goals as goal

pub bounds-into-4 : goal.bounds-into-4
bounds-into-4 c = simp length-set (omega arith)

pub bounds-into-5 : goal.bounds-into-5
bounds-into-5 c = simp length-set (omega arith)

pub bounds-into-6 : goal.bounds-into-6
bounds-into-6 c = simp length-set (omega arith)

pub returns : goal.returns
returns c =
    let a = c.args in all_stored a.into.now (seven a.head) c.requires
