-- What the call that names the odd node answers, and what it leaves in the lent buffer, whatever comes in: document 02's Ask 7 (docs/SCHEME.md, 18).
use Rattle.std.specs.Prelude.{◌≡◌, cond, List, ℕ, suc, eqb, length}
use Rattle.letters.specs.Algebra.{xors}
use Rattle.group.specs.declared.Group.{Group}
use Rattle.group.specs.Answers.{check_number}
use Rattle.lengths.specs.Lengths.{file_letters}
use Rattle.sequences.specs.Lists.{run, ranked}
use Rattle.matrix.specs.Matrix.{packets}
use Rattle.agreement.specs.Agreement.{handed_by, FirstWrong, Shared, SharedWithout, OddAlone, SeveralWrong}
use Rattle.odd_report.specs.declared.Standing.{Standing}
use Rattle.odd_report.specs.declared.Standing.TheVariants.{Agreeing, Unknown, Odd}
use Rattle.odd_report.specs.declared.Report.{Report}
use Rattle.odd_checks.specs.Refusals.{odd_refusal}
use Rattle.odd_report.specs.Standings.{nodes_where, all_absent}

-- how a present node stands where the one of rank b alone is odd, at this place
abbrev pub odd_at : List ℕ → ℕ → ℕ → ℕ → Standing
odd_at ids b place i = cond (eqb i (ranked ids b)) (Odd place) Agreeing

-- a file of nothing but zeros
unfoldable pub zero_file : Group → List ℕ
unfolding run
zero_file g = run (file_letters g) (λ p. 0)

-- How each present node stands, and what the buffer holds: which of three it is, all agree, one alone is odd, or more than one is wrong.
pub data Shows (g : Group) (ids handed : List ℕ) : (ℕ → Standing) → List ℕ → Type 0 where
  agree : (file : List ℕ) → Shared g ids handed file → Shows g ids handed (λ i. Agreeing) file
  odd :
      (b place : ℕ) (file : List ℕ) → OddAlone g ids handed b → SharedWithout g ids handed b file
      → FirstWrong (handed_by g ids handed b) (packets xors g file (ranked ids b)) place
      → Shows g ids handed (odd_at ids b place) file
  several : SeveralWrong g ids handed → Shows g ids handed (λ i. Unknown) (zero_file g)

-- A refused call answers its number, all nodes are absent and the buffer is as it was; else the entries and the buffer tell which of the three it is.
pub data Reports (g : Group) (ids handed before after : List ℕ) (r : Report) : Type 0 where
  refused :
      (q : ℕ) → odd_refusal g ids (length handed) (length before) ≡ suc q → check_number r.check ≡ suc q → r.nodes ≡ all_absent → after ≡ before
      → Reports g ids handed before after r
  answered :
      (standing : ℕ → Standing) → odd_refusal g ids (length handed) (length before) ≡ 0 → check_number r.check ≡ 0 → r.nodes ≡ nodes_where ids standing
      → Shows g ids handed standing after → Reports g ids handed before after r
