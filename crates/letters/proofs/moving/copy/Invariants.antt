-- After i turns the first i letters are laid.
use Rattle.std.proofs.Common.{◌+◌, ◌-◌, get_or}
use Rattle.letters.specs.Laid.{Laid}
use Rattle.letters.proofs.moving.copy.Given as goal

abbrev pub invariant-loop-i : goal.invariant-loop-i
invariant-loop-i l = Laid l.initial.to l.to l.at (l.at + l.i) (λ p. get_or l.from (l.start + (p - l.at)) 0)
