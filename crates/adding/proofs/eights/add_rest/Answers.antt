-- `eights::add_rest` meets its contract: a block goes in where there is one.
use Rattle.std.proofs.Common.{sym, arith, length}
use Rattle.letters.specs.Algebra.{xors}
use Rattle.letters.proofs.Runs.{added_none}
use Rattle.letters.proofs.Rests.{no_block, one_block, block_fits, in_run}
use Rattle.adding.proofs.eights.add_rest.Goals as goal

pub returns-then-run-width : goal.returns-then-run-width
returns-then-run-width c = record { letters = sym (added_none xors _ _); count = no_block _ _ _ (omega arith) (omega arith) }

pub overflow_add-at : goal.overflow_add-at
overflow_add-at c = omega (arith, in_run (length c.args.run.now) c.args.width c.args.start (omega arith))

pub add_block-requires : goal.add_block-requires
add_block-requires c =
    let fits = block_fits (length c.args.run.now) c.args.width c.args.start (omega arith) (omega arith) (omega arith) in
    (omega arith, omega arith, omega arith)

pub returns-clause-count : goal.returns-clause-count
returns-clause-count c = one_block _ _ _ (omega arith) (omega arith) (omega arith)
