-- Any chain of losses and repairs: what all nodes have, and the steps from one state to the next.
use Rattle.std.specs.Prelude.{◌≡◌, cond, List, ℕ, ◌≤◌, eqb}
use Rattle.group.specs.declared.Group.{Group}
use Rattle.group.specs.Answers.{Answer}
use Rattle.group.specs.Answers.{number_of}
use Rattle.group.specs.Ranges.{NodeOf}
use Rattle.sequences.specs.Lists.{ranked}
use Rattle.nodes.specs.Calls.{Encoded}
use Rattle.store.specs.Repairing.{Rebuilds}

-- what a node has: its letters, or nothing since it was lost
pub data Has : Type 0 where
  letters : List ℕ → Has
  nothing : Has

-- what each node has
abbrev pub State : Type 0
State = ℕ → Has

-- the same, but for one node
abbrev pub but : State → ℕ → Has → State
but state i has j = cond (eqb j i) has (state j)

-- every node of the group has what `encode` of the file left, and no call was refused
pub record Fresh (g : Group) (file : List ℕ) (state : State) : Type 0 where
  pub room : ℕ → List ℕ
  pub packets : ℕ → List ℕ
  pub answer : ℕ → Answer
  pub encoded : (i : ℕ) → NodeOf g i → Encoded g i file (room i) (packets i) (answer i)
  pub none_refused : (i : ℕ) → NodeOf g i → number_of (answer i) ≡ 0
  pub stands : (i : ℕ) → NodeOf g i → state i ≡ letters (packets i)

-- one step: a node is lost, or one is rebuilt by the calls from d nodes that have their letters
pub data Step (g : Group) (state : State) : State → Type 0 where
  lost : (i : ℕ) → Step g state (but state i nothing)
  rebuilt :
      (i : ℕ) (helpers : List ℕ) (held : ℕ → List ℕ) (after : List ℕ) (r : Answer)
      → ((u : ℕ) → 1 ≤ u → u ≤ g.d → state (ranked helpers u) ≡ letters (held u)) → Rebuilds g i helpers held after r
      → Step g state (but state i (letters after))

-- any list of steps
pub data Steps (g : Group) (state : State) : State → Type 0 where
  none : Steps g state state
  then : {between after : State} → Steps g state between → Step g between after → Steps g state after
