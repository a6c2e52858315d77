-- `helping::check_other` meets its contract: each return tells which test fails.
use native.Mathlib.Omega.{arith}
use borrow.Author.Tests.{le-leb, lt-leb, eq-eqb, ne_eqb}
use Rattle.group.proofs.InRange.{of_node}
use Rattle.letters.proofs.Places.{both_no}
use Rattle.helpers.specs.Calls.{helper_refusal}
use Rattle.helpers.proofs.helping.check_other.Goals as goal

pub returns-then-helper-lt1 : goal.returns-then-helper-lt1
unfolding helper_refusal
returns-then-helper-lt1 c =
    let s = c in
    simp (of_node _ _ s.requires, lt-leb _ _ c.if-helper-lt1.true)

pub returns-then-g-helper : goal.returns-then-g-helper
unfolding helper_refusal
returns-then-g-helper c =
    let s = c in
    simp (of_node _ _ s.requires, lt-leb _ _ c.if-g-helper.true, both_no)

pub returns-then-rank-lt1 : goal.returns-then-rank-lt1
unfolding helper_refusal
returns-then-rank-lt1 c =
    let s = c in
    simp (of_node _ _ s.requires, le-leb 1 s.args.helper (omega arith), le-leb s.args.helper s.args.g.n (omega arith), lt-leb _ _ c.if-rank-lt1.true)

pub returns-then-g-rank : goal.returns-then-g-rank
unfolding helper_refusal
returns-then-g-rank c =
    let s = c in
    simp (of_node _ _ s.requires, le-leb 1 s.args.helper (omega arith), le-leb s.args.helper s.args.g.n (omega arith), lt-leb _ _ c.if-g-rank.true, both_no)

pub returns-then-helper-lost : goal.returns-then-helper-lost
unfolding helper_refusal
returns-then-helper-lost c =
    let s = c in
    simp (of_node _ _ s.requires, le-leb 1 s.args.helper (omega arith), le-leb s.args.helper s.args.g.n (omega arith), le-leb 1 s.args.rank (omega arith), le-leb s.args.rank s.args.g.d (omega arith), eq-eqb _ _ c.if-helper-lost.true)

pub returns : goal.returns
unfolding helper_refusal
returns c =
    let s = c in
    simp (of_node _ _ s.requires, le-leb 1 s.args.helper (omega arith), le-leb s.args.helper s.args.g.n (omega arith), le-leb 1 s.args.rank (omega arith), le-leb s.args.rank s.args.g.d (omega arith), ne_eqb _ _ c.if-helper-lost.false)
