-- A block more is in after each turn, and in the end all of the run.
use Rattle.std.proofs.Common.{◌≡◌, ◌+◌, ◌*◌, ◌∙◌, sym, ap, drop, arith, length-drop}
use Rattle.std.proofs.Math.Seq.{take_all}
use Rattle.letters.specs.Algebra.{xors}
use Rattle.letters.specs.Runs.{added}
use Rattle.letters.specs.Steps.Rests.{widest_block}
use Rattle.letters.proofs.Runs.{added_none, added_further}
use Rattle.letters.proofs.Rests.{all_blocks}
use Rattle.adding.proofs.eights.add_blocks.Goals as goal

pub loop-b-init : goal.loop-b-init
loop-b-init c = sym (added_none xors _ _)

pub overflow_add-i : goal.overflow_add-i
overflow_add-i c = omega (arith, all_blocks _ _ c.requires.0)

pub overflow_add-at : goal.overflow_add-at
overflow_add-at c = omega (arith, all_blocks _ _ c.requires.0)

pub add_block-requires : goal.add_block-requires
add_block-requires c =
    let all = all_blocks _ _ c.requires.0 in
    (omega arith, omega arith, omega arith)

pub loop-b-preserved : goal.loop-b-preserved
loop-b-preserved c =
    let a = c.args in
    let b = c.loop-b.b in
    let all = all_blocks _ _ c.requires.0 in
    let e : (b + 1) * widest_block ≡ b * widest_block + widest_block = omega arith in
    rw e (added_further xors a.into.now _ _ a.at a.run.now a.start (b * widest_block) widest_block (omega arith) c.loop-b.invariant c.add_block.ensures)

pub returns : goal.returns
returns c =
    let a = c.args in
    let all = all_blocks _ _ c.requires.0 in
    c.loop-b.invariant
    ∙ ap (added xors a.into.now (a.at + a.start)) (take_all (c.loop-b.b * widest_block) (drop a.start a.run.now) (simp length-drop (omega arith)))
