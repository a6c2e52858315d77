-- After i turns the first i letters of the run are in.
use Rattle.std.proofs.Common.{◌≡◌, take, drop}
use Rattle.letters.specs.Algebra.{xors}
use Rattle.letters.specs.Runs.{added}
use Rattle.adding.proofs.eights.add_letters.Given as goal

abbrev pub invariant-loop-i : goal.invariant-loop-i
invariant-loop-i l = l.into ≡ added xors l.initial.into l.at (take l.i (drop l.start l.run))
