-- What the exported call that names the odd node returns and leaves.
use Rattle.std.specs.Prelude.{◌≡◌, List, [], ◌∷◌, ℕ, suc, ◌-◌, eqb, length, get_or}
use Rattle.group.specs.declared.Group.{Group}
use Rattle.group.specs.Answers.{unless, first}
use Rattle.sequences.specs.Lists.{joined}
use Rattle.odd_report.specs.declared.Standing.{Standing}
use Rattle.odd_report.specs.declared.Standing.TheVariants.{Absent, Agreeing, Unknown, Odd}
use Rattle.odd_report.specs.declared.Node.{Node}
use Rattle.odd_checks.specs.Refusals.{odd_refusal}
use Rattle.odd_report.specs.Standings.{nodes_where}
use Rattle.odd_one.specs.Calls.{Shows}

-- a node's state: 0 absent, 1 agreeing, 2 unknown, 3 odd
abbrev pub state_number : Standing → ℕ
state_number Absent = 0
state_number Agreeing = 1
state_number Unknown = 2
state_number (Odd place) = 3

-- the place of its first wrong letter, 0 where it isn't odd
abbrev pub place_number : Standing → ℕ
place_number Absent = 0
place_number Agreeing = 0
place_number Unknown = 0
place_number (Odd place) = place

-- how node i stands, by the sixteen entries
abbrev pub entry_of : List Node → ℕ → Standing
entry_of nodes i = (get_or nodes (i - 1) (record { standing = Absent })).standing

-- the report: for each node its state, and after it the place
unfoldable pub report_numbers : List Node → List ℕ
unfolding joined
report_numbers nodes = joined 16 (λ i. state_number (entry_of nodes i) ∷ (place_number (entry_of nodes i) ∷ []))

-- the refusals of the call, and then 6 for a report that hasn't 32 numbers
unfoldable pub told_refusal : Group → List ℕ → ℕ → ℕ → ℕ → ℕ
told_refusal g ids packets file report = first (odd_refusal g ids packets file) (unless (eqb report 32) 6)

-- what isn't refused tells which of the three it is
pub record Shown (g : Group) (ids handed after report : List ℕ) : Type 0 where
  pub standing : ℕ → Standing
  pub tells : Shows g ids handed standing after
  pub numbers : report ≡ report_numbers (nodes_where ids standing)

-- a refused call returns its number and leaves both buffers as they were
pub data Names (g : Group) (ids handed before after report report' : List ℕ) (r : ℕ) : Type 0 where
  refused :
      (q : ℕ) → told_refusal g ids (length handed) (length before) (length report) ≡ suc q → r ≡ suc q → after ≡ before → report' ≡ report
      → Names g ids handed before after report report' r
  told :
      told_refusal g ids (length handed) (length before) (length report) ≡ 0 → r ≡ 0 → Shown g ids handed after report'
      → Names g ids handed before after report report' r
