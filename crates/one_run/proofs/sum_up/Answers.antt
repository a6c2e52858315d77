-- `one_run::sum_up` meets its contract: the run is lent as a slice of its own, and a running sum past the first stride is one of the whole run.
use native.Mathlib.Omega.{arith}
use Prim.Native.Nat.{◌+◌}
use Rattle.one_run.proofs.OneRun.{lent_summed, running_summed}
use Rattle.one_run.proofs.sum_up.Goals as goal

pub returns : goal.returns
returns c =
    let a = c.args in
    running_summed a.start a.count a.stride _ _ c.requires.0 (lent_summed a.start (a.start + a.count) a.stride a.part.now _ (omega arith) c.requires.1 c.divide.ensures)
