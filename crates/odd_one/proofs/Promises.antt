-- What the call promises a user: nodes that hold a file's packets agree, and where one of them holds anything else it is named, wherever it stands.
use mathlib.Core.Path.{◌≡◌, refl, sym, ap, ◌∙◌}
use mathlib.Core.List.{List}
use mathlib.Core.Logic.{⊎_elim}
use native.Mathlib.Omega.{arith}
use Prim.Native.Nat.{ℕ, ◌≤◌}
use lib.ListN.{length}
use Rattle.letters.specs.Algebra.{xors}
use Rattle.group.specs.declared.Group.{Group}
use Rattle.sequences.specs.Lists.{ranked}
use Rattle.lengths.specs.Lengths.{file_letters}
use Rattle.matrix.specs.Matrix.{packets}
use Rattle.matrix.specs.Pieces.{Chosen}
use Rattle.matrix.proofs.Product.{length_packets}
use Rattle.agreement.specs.Agreement.{handed_by, FirstWrong, Gives, Shared, SharedWithout, AllAgree}
use Rattle.agreement.proofs.Choices.{Choice, two_files}
use Rattle.agreement.proofs.Handed.{length_handed}
use Rattle.agreement.proofs.FirstWrong.{compare}
use Rattle.agreement.proofs.Trying.{without_any}
use Rattle.agreement.proofs.Theorems.{only_file_without}
use Rattle.present.specs.Steps.Places.{Present}
use Rattle.odd_report.specs.declared.Standing.{Standing}
use Rattle.odd_report.specs.declared.Standing.TheVariants.{Agreeing}
use Rattle.odd_report.specs.declared.Report.{Report}
use Rattle.odd_checks.specs.Refusals.{odd_refusal}
use Rattle.odd_report.specs.Standings.{nodes_where}
use Rattle.odd_one.specs.Calls.{Shows, Reports, odd_at}
use Rattle.odd_checks.proofs.Refusing.{present_here}
use Rattle.odd_one.proofs.Outcomes.{shows_once}

module _ (g : Group) (ids handed before after : List ℕ) (r : Report) (fine : odd_refusal g ids (length handed) (length before) ≡ 0)
    (call : Reports g ids handed before after r) where
  here : Present g ids handed
  here = present_here g ids (length handed) (length before) fine handed refl

  -- what a call that isn't refused tells is what is so
  told : (s : ℕ → Standing) (file : List ℕ) → Shows g ids handed s file → (after ≡ file) × (r.nodes ≡ nodes_where ids s)
  told s file tells = go call
    where
      go : Reports g ids handed before after r → (after ≡ file) × (r.nodes ≡ nodes_where ids s)
      go (Reports.refused q is number nodes kept) = absurd (omega arith)
      go (Reports.answered s' is number nodes tells') =
          let w = shows_once g ids handed here s' s after file tells' tells in
          (w.1, nodes ∙ ap (nodes_where ids) w.0)

  -- nodes that all hold the packets of a file agree, and the buffer then holds it
  pub honest_agree : (file : List ℕ) → Shared g ids handed file → (after ≡ file) × (r.nodes ≡ nodes_where ids (λ i. Agreeing))
  honest_agree file shared = told (λ i. Agreeing) file (Shows.agree file shared)

  -- where all but one do, and that one holds anything else, it alone is odd, at its first wrong letter, and the buffer holds the file
  pub liar_named :
      (file : List ℕ) (b : ℕ) → 1 ≤ b → b ≤ length ids → SharedWithout g ids handed b file → (Gives g ids handed file b → ⊥)
      → (after ≡ file)
      × ((place : ℕ)
      × FirstWrong (handed_by g ids handed b) (packets xors g file (ranked ids b)) place
      × (r.nodes ≡ nodes_where ids (odd_at ids b place)))
  liar_named file b lo hi without lies =
      ⊎_elim (λ same. absurd (lies same))
      (λ found.
      let w = told (odd_at ids b found.0) file (Shows.odd b found.0 file (record { low = lo; high = hi; not_all = not_all; others = (file, without) }) without found.1) in
      (w.0, (found.0, found.1, w.1)))
      (compare (handed_by g ids handed b) (packets xors g file (ranked ids b))
      (length_handed g ids handed here.long b lo hi ∙ sym (length_packets xors g file (ranked ids b))))
    where
      not_all : AllAgree g ids handed → ⊥
      not_all all =
          lies
          (ap (λ f. packets xors g f (ranked ids b))
          (only_file_without g ids handed here.chosen here.spare b file all.0 without (without_any g ids handed b all.0 all.1))
          ∙ all.1.gives b lo hi)

-- Any k nodes that hold packets of one file decide: a file that all share without another node is that file. So fewer than m-k wrong nodes, of m, are never taken for the honest ones.
pub honest_decide :
    (g : Group) (ids handed : List ℕ) → Chosen g (length ids) ids → (rank : ℕ → ℕ) → Choice g ids rank → (file : List ℕ) → length file ≡ file_letters g
    → ((v : ℕ) → 1 ≤ v → v ≤ g.k → Gives g ids handed file (rank v)) → (b : ℕ) → ((v : ℕ) → 1 ≤ v → v ≤ g.k → rank v ≡ b → ⊥)
    → (shared : List ℕ) → SharedWithout g ids handed b shared → shared ≡ file
honest_decide g ids handed chosen rank choice file long honest b away shared s =
    two_files g ids chosen rank choice shared file s.long long
    (λ v lo hi. s.gives (rank v) (choice.low v lo hi) (choice.high v lo hi) (away v lo hi) ∙ sym (honest v lo hi))
