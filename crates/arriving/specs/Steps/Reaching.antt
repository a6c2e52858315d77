-- Which bytes a state steps over.
use Rattle.std.specs.Prelude.{◌≡◌, List, ℕ, ◌^◌, ◌≤◌, ◌<◌}
use Rattle.kinds.specs.Kinds.{head_size}
use Rattle.heads.specs.Heads.{heads}
use Rattle.reaching.specs.Steps.Reaching.{Within, Stepped}
use Rattle.arriving.specs.declared.Arriving.{Arriving}
use Rattle.arriving.specs.States.{head_so_far}

-- bytes lead to this state, their head is in, and all of them stand
pub record PastHead (s : Arriving) (letters : ℕ) : Type 0 where
  pub small : s.batch < 2 ^ 32
  pub none : s.wrong ≡ 0
  pub long : head_size s.kind ≤ s.at
  pub total : letters ≡ heads.total (head_so_far s)
  pub within : Within s.kind letters s.at

-- so many of these bytes are stepped over in a state: none, or some where their head is in
pub data StepsOver (s : Arriving) (ys : List ℕ) : ℕ → Type 0 where
  none : StepsOver s ys 0
  some : (T q : ℕ) → PastHead s T → Stepped s.kind s.at T ys q → StepsOver s ys q
