-- `of_one` meets its contract: the letters that are read lie in the buffer, and are one stretch, so that one addition takes them out.
use native.Mathlib.Omega.{arith}
use Rattle.letters.proofs.Laying.{nothing_laid}
use Rattle.earlier.proofs.Pair.{to_fits, from_fits, apart, taken_one}
use Rattle.earlier.proofs.Taking.{placed_in, begun_in}
use Rattle.earlier.proofs.of_one.Goals as goal

pub add-requires : goal.add-requires
add-requires c =
    let t = c.args.tile.now in
    let placed = placed_in t.tile c.args.b (omega arith) (omega arith) in
    let begun = begun_in t.tile c.args.a (omega arith) (omega arith) in
    let delayed = t.system.waits.each c.args.b (omega arith) (omega arith) in
    let some = t.system.solvable.some_letters in
    let reads = c.read_before-r.ensures in
    (omega (arith, to_fits some placed begun reads), omega (arith, from_fits some placed begun reads), rw delayed (apart some placed begun reads))

pub returns-then-r-gt0 : goal.returns-then-r-gt0
returns-then-r-gt0 c =
    let t = c.args.tile.now in
    let placed = placed_in t.tile c.args.b (omega arith) (omega arith) in
    let begun = begun_in t.tile c.args.a (omega arith) (omega arith) in
    let delayed = t.system.waits.each c.args.b (omega arith) (omega arith) in
    taken_one t.system.solvable.some_letters placed begun c.read_before-r.ensures t.system.solvable.ordered (rw delayed at c.add.ensures)

pub returns-else-r-gt0 : goal.returns-else-r-gt0
returns-else-r-gt0 c =
    let t = c.args.tile.now in
    let placed = placed_in t.tile c.args.b (omega arith) (omega arith) in
    let begun = begun_in t.tile c.args.a (omega arith) (omega arith) in
    taken_one t.system.solvable.some_letters placed begun c.read_before-r.ensures t.system.solvable.ordered (nothing_laid _ _ _ _ (omega arith))
