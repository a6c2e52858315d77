-- A helper that no check refuses, and the other way round.
use mathlib.Core.Path.{◌≡◌}
use mathlib.Core.Bool.{not}
use Prim.Native.Nat.{ℕ}
use native.Mathlib.Omega.{arith}
use lib.Dec.{eqb}
use borrow.Author.Tests.{eqb-false, not-true, le-leb, ne_eqb}
use Rattle.letters.specs.Places.{both}
use Rattle.group.specs.declared.Group.{Group}
use Rattle.group.specs.Answers.{unless, first}
use Rattle.group.specs.Ranges.{between, node_refusal}
use Rattle.group.proofs.Refusals.{first_none, unless_none, both_true}
use Rattle.group.proofs.InRange.{between_true, node_of, of_node}
use Rattle.helpers.specs.Calls.{helper_refusal}
use Rattle.helper_sums.specs.Steps.Checked.{Helper}

-- a helper that no check refuses, and the other way round
pub helper_of : (g : Group) (lost helper rank : ℕ) → helper_refusal g lost helper rank ≡ 0 → Helper g lost helper rank
unfolding helper_refusal
helper_of g lost helper rank e =
    let w = first_none (node_refusal g lost) (first (unless (both (between 1 g.n helper) (between 1 g.d rank)) 3) (unless (not (eqb helper lost)) 4)) e in
    let v = first_none (unless (both (between 1 g.n helper) (between 1 g.d rank)) 3) (unless (not (eqb helper lost)) 4) w.1 in
    let n = node_of g lost w.0 in
    let b = both_true (between 1 g.n helper) (between 1 g.d rank) (unless_none (both (between 1 g.n helper) (between 1 g.d rank)) 3 (λ q. omega arith) v.0) in
    let h = between_true 1 g.n helper b.0 in
    let r = between_true 1 g.d rank b.1 in
    record {
      node = n;
      other = record { group = n.group; low = h.0; high = h.1 };
      rank_low = r.0;
      rank_high = r.1;
      apart = eqb-false helper lost (not-true (eqb helper lost) (unless_none (not (eqb helper lost)) 4 (λ q. omega arith) v.1));
    }

pub of_helper : (g : Group) (lost helper rank : ℕ) → Helper g lost helper rank → helper_refusal g lost helper rank ≡ 0
unfolding helper_refusal
of_helper g lost helper rank r =
    simp (
      of_node g lost r.node,
      le-leb 1 helper r.other.low,
      le-leb helper g.n r.other.high,
      le-leb 1 rank r.rank_low,
      le-leb rank g.d r.rank_high,
      ne_eqb helper lost r.apart,
    )
