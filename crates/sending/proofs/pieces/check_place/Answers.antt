-- `pieces::check_place` meets its contract: each return tells which test fails.
use native.Mathlib.Omega.{arith}
use borrow.Author.Tests.{le-leb, lt-leb}
use Rattle.letters.proofs.Places.{both_no}
use Rattle.sending.specs.Calls.{place_refusal}
use Rattle.sending.proofs.pieces.check_place.Goals as goal

pub returns-then-rank-lt1 : goal.returns-then-rank-lt1
unfolding place_refusal
returns-then-rank-lt1 c = simp (lt-leb _ _ c.if-rank-lt1.true)

pub returns-then-g-rank : goal.returns-then-g-rank
unfolding place_refusal
returns-then-g-rank c = simp (lt-leb _ _ c.if-g-rank.true, both_no)

pub returns-then-column-rank : goal.returns-then-column-rank
unfolding place_refusal
returns-then-column-rank c =
    let s = c in
    simp (le-leb 1 s.args.rank (omega arith), le-leb s.args.rank s.args.g.k (omega arith), lt-leb _ _ c.if-column-rank.true)

pub returns-then-g-column : goal.returns-then-g-column
unfolding place_refusal
returns-then-g-column c =
    let s = c in
    simp (le-leb 1 s.args.rank (omega arith), le-leb s.args.rank s.args.g.k (omega arith), lt-leb _ _ c.if-g-column.true, both_no)

pub returns : goal.returns
unfolding place_refusal
returns c =
    let s = c in
    simp (le-leb 1 s.args.rank (omega arith), le-leb s.args.rank s.args.g.k (omega arith), le-leb s.args.rank s.args.column (omega arith), le-leb s.args.column s.args.g.d (omega arith))
