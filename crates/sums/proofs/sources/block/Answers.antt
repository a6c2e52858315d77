-- After every turn one run more is in the block.
use Rattle.std.proofs.Common.{◌≡◌, ℕ, List, ◌+◌, ◌-◌, ◌<◌, ap, ◌∙◌, arith, rules, length, get_or, take, drop}
use Rattle.std.proofs.Math.Seq.{get_or-take, get_or-drop}
use Rattle.sums.proofs.Sums.{fits_at, block_first, block_more}
use Rattle.sums.proofs.sources.block.Goals as goal

-- an element of the list behind its first
behind : (starts : List ℕ) (i : ℕ) → i < length starts - 1 → get_or (take (length starts - 1) (drop 1 starts)) i 0 ≡ get_or starts (i + 1) 0
behind starts i h = get_or-take _ _ i 0 h ∙ get_or-drop 1 starts i 0 ∙ ap (λ k. get_or starts k 0) (omega arith)

pub loop-start-init : goal.loop-start-init
loop-start-init c = block_first _ _ _ _ (search rules) c.taken-block.ensures

pub overflow_add-start : goal.overflow_add-start
overflow_add-start c =
    let i = c.loop-start.start-index in
    omega (arith, behind c.args.starts.now i (omega arith), fits_at _ _ _ _ c.requires (i + 1) (omega arith))

pub add_letters-requires : goal.add_letters-requires
add_letters-requires c =
    let i = c.loop-start.start-index in
    (omega (arith, behind c.args.starts.now i (omega arith), fits_at _ _ _ _ c.requires (i + 1) (omega arith)), omega (arith, c.loop-start.invariant.long))

pub loop-start-preserved : goal.loop-start-preserved
loop-start-preserved c =
    let i = c.loop-start.start-index in
    let e = behind c.args.starts.now i (omega arith) in
    block_more _ _ (i + 1) _ _ _ c.loop-start.invariant (rw e at c.add_letters.ensures)
