-- `Run::but_first` meets its contract: the first letters are counted by themselves and taken off.
use mathlib.Core.Path.{◌≡◌, refl, ap, ◌∙◌}
use Prim.Native.Nat.{◌≤◌}
use native.Mathlib.Nat.{add-zero}
use native.Mathlib.Omega.{arith}
use Rattle.worth.specs.Worth.{worth_in}
use Rattle.worth.proofs.Worth.{worth_of_slice}
use Rattle.counting.proofs.Taken.{part_of_whole, left_rest}
use Rattle.counting.proofs.Run.but_first.Goals.{After-count}
use Rattle.counting.proofs.Run.but_first.Goals as goal

outer : (c : After-count) → c.count.result ≡ worth_in c.args.self.now.buffer.now c.args.self.now.start c.args.outside
outer c =
    let r = c.args.self.now in
    c.count.ensures ∙ worth_of_slice r.buffer.now r.start c.args.outside _ refl (omega (arith, r.counted.fits))

few : (c : After-count) → c.count.result ≤ c.args.self.now.whole
few c =
    let r = c.args.self.now in
    omega (
      arith,
      outer c,
      part_of_whole r.buffer.now r.start _ _ c.args.outside r.counted 0 (omega arith),
      ap (λ i. worth_in r.buffer.now i c.args.outside) (add-zero r.start),
    )

pub overflow_sub-result : goal.overflow_sub-result
overflow_sub-result c = few (goal.at.overflow_sub-result c).After-count

pub returns : goal.returns
returns c =
    let after = (goal.at.returns c).After-count in
    left_rest _ _ _ _ c.args.outside c.args.self.now.counted _ c.count.result (omega arith) (outer after) (few after)
