-- `refusal_at` meets its contract: how many letters would come before the record tells whether it is a block, the end, or past it.
use mathlib.Core.Path.{sym, ◌∙◌}
use native.Mathlib.Omega.{arith}
use Rattle.records.proofs.Places.{head_at}
use Rattle.refusing.proofs.Places.{at_after, at_kind, at_number, at_filler, at_total, offset_past, offset_first}
use Rattle.refusing.proofs.refusal_at.Goals as goal

pub returns-then-at-eq0 : goal.returns-then-at-eq0
returns-then-at-eq0 c =
    let s = c.args in sym (at_kind s.front s.letters s.at (omega arith) (offset_first s.front s.at c.if-at-eq0.true))

pub returns-then-at-front : goal.returns-then-at-front
returns-then-at-front c =
    let s = c.args in
    sym (at_number s.front s.letters s.at (omega arith) (λ e. c.if-at-eq0.false (sym (head_at s.front s.at c.if-at-front.true).1 ∙ e)) c.if-at-front.true)

pub returns-then-letters-before : goal.returns-then-letters-before
returns-then-letters-before c =
    let s = c.args in sym (at_after s.front s.letters s.at (omega arith))

pub returns-then-offset-eq0 : goal.returns-then-offset-eq0
returns-then-offset-eq0 c =
    let s = c.args in
    sym (at_kind s.front s.letters s.at (omega arith) (offset_past s.front s.at c.if-at-front.false ∙ c.if-offset-eq0.true))

pub returns-then-before-letters : goal.returns-then-before-letters
returns-then-before-letters c =
    let s = c.args in
    sym
    (at_filler s.front s.letters s.at (omega arith) (λ e. c.if-offset-eq0.false (sym (offset_past s.front s.at c.if-at-front.false) ∙ e)) c.if-at-front.false
    (omega arith))

pub returns-then-offset-lt-END_SIZE : goal.returns-then-offset-lt-END_SIZE
returns-then-offset-lt-END_SIZE c =
    let s = c.args in
    sym (at_total s.front s.letters s.at (omega arith) (λ e. c.if-offset-eq0.false (sym (offset_past s.front s.at c.if-at-front.false) ∙ e)) (omega arith))

pub returns : goal.returns
returns c =
    let s = c.args in sym (at_after s.front s.letters s.at (omega arith))
