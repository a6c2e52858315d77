-- How a head and a judgment are told to C.
use Rattle.std.specs.Prelude.{◌≡◌, List, [], ◌∷◌, ℕ, length}
use Rattle.group.specs.declared.Refusal.TheVariants.{Output}
use Rattle.group.specs.Answers.{refusal_number, Outcome}
use Rattle.heads.specs.declared.Head.{Head}

-- a head as seven numbers: n, k, d, node, L, batch, kind
abbrev pub seven : Head → List ℕ
seven h = h.group.n ∷ h.group.k ∷ h.group.d ∷ h.node ∷ h.group.l ∷ h.batch ∷ h.kind ∷ []

-- A judgment told to C: 0 and the head's numbers for a share; 6 comes last, and a refusal leaves the lent numbers as they were.
pub data TellsJudgment (head : List ℕ) : Outcome Head → ℕ → List ℕ → Type 0 where
  complete : (h : Head) → length head ≡ 7 → TellsJudgment head (Outcome.fine h) 0 (seven h)
  misfit : (h : Head) → (length head ≡ 7 → ⊥) → TellsJudgment head (Outcome.fine h) (refusal_number Output) head
  refused : (n : ℕ) → TellsJudgment head (Outcome.refused n) n head
  malformed : (n q : ℕ) → TellsJudgment head (Outcome.wrong n q) n head
