-- The kind that writing chooses: 1 where L is at most 4,096, 6 where it is more. A call is refused by its numbers as any other call with a node, and
-- every share of packets has the head that writing gives it.
use mathlib.Core.Path.{◌≡◌, ap, ap₂}
use mathlib.Core.List.{List}
use Prim.Native.Nat.{ℕ, ◌≤◌, ◌<◌}
use Rattle.group.specs.declared.Group.{Group}
use Rattle.group.specs.Answers.{first}
use Rattle.group.specs.Ranges.{node_refusal, input_refusal, output_refusal}
use Rattle.lengths.specs.Lengths.{node_letters}
use Rattle.kinds.proofs.RowLaws.{short_kind, longer_kind, chosen_refusal, chosen_letters, served_kind}
use Rattle.layout.specs.Share.{ShareOf}
use Rattle.heads.specs.declared.Head.{Head}
use Rattle.heads.specs.Heads.{heads}
use Rattle.share.specs.Calls.{fit_refusal, write_refusal, head_for, share_bytes}

module _ (g : Group) (i batch : ℕ) where
  pub short_is_one : g.l ≤ 4096 → (head_for g i batch).kind ≡ 1
  short_is_one h = short_kind g.l h

  pub longer_is_six : 4096 < g.l → (head_for g i batch).kind ≡ 6
  longer_is_six h = longer_kind g.l h

  pub write_refusal_lem :
      (packets share : ℕ)
      → write_refusal (head_for g i batch) packets share
      ≡ first (node_refusal g i) (first (input_refusal (node_letters g i) packets) (output_refusal (share_bytes g i) share))
  unfolding write_refusal fit_refusal
  write_refusal_lem packets share =
      ap₂ (λ q t. first q (first (input_refusal t packets) (output_refusal (share_bytes g i) share))) (chosen_refusal g i) (chosen_letters g i)

pub packets_head : (h : Head) (letters xs : List ℕ) → ShareOf heads h letters xs → (h.kind ≡ 5 → ⊥) → h ≡ head_for h.group h.node h.batch
packets_head h letters xs w other =
    ap (λ kind. record { group = h.group; node = h.node; batch = h.batch; kind = kind })
    (served_kind h.kind h.group h.node w.allowed.kind other w.allowed.numbers)
