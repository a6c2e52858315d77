-- One letter more of the run is in after each turn.
use Rattle.std.proofs.Common.{drop, refl, sym, arith, length-drop}
use Rattle.std.proofs.Math.Seq.{get_or-drop}
use Rattle.letters.specs.Algebra.{xors}
use Rattle.letters.proofs.Runs.{added_none, added_next}
use Rattle.adding.proofs.eights.add_letters.Goals as goal

pub loop-i-init : goal.loop-i-init
loop-i-init c = sym (added_none xors _ _)

pub loop-i-preserved : goal.loop-i-preserved
loop-i-preserved c =
    let a = c.args in
    rw (added_next xors a.into.now a.at (drop a.start a.run.now) c.loop-i.i (simp length-drop (omega arith)), get_or-drop, ← c.loop-i.invariant) refl
