-- The contract of `write` allows one outcome: a number and values tell the answer.
use mathlib.Core.Path.{◌≡◌, sym, ◌∙◌}
use mathlib.Core.List.{List}
use Prim.Native.Nat.{ℕ}
use Rattle.group.specs.Answers.{Answer}
use Rattle.group.proofs.Outcomes.{same_answer}
use Rattle.heads.specs.declared.Head.{Head}
use Rattle.share.specs.Calls.{Writes}

-- `write` has one answer and leaves one content in the buffer.
pub one_writing :
    (h : Head) (letters before after after' : List ℕ) (n : ℕ) (r s : Answer) → Writes h letters before n r after
    → Writes h letters before n s after' → (r ≡ s) × (after ≡ after')
one_writing h letters before after after' n r s p q = (
  same_answer r s (p.answered.number ∙ sym q.answered.number) (p.answered.valued ∙ sym q.answered.valued),
  p.held ∙ sym q.held,
)
