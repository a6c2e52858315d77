-- What the call's contract says allows one report and one content of the buffer: it is a function of what was handed in.
use native.Mathlib.Omega.{arith}
use mathlib.Core.Path.{◌≡◌, refl, sym, ap, ap₂, subst, ◌∙◌}
use mathlib.Core.List.{List}
use Prim.Native.Nat.{ℕ}
use lib.ListN.{length}
use Rattle.letters.specs.Algebra.{xors}
use Rattle.group.specs.declared.Group.{Group}
use Rattle.group.specs.Answers.{check_number}
use Rattle.group.proofs.Outcomes.{check_once}
use Rattle.sequences.specs.Lists.{ranked}
use Rattle.matrix.specs.Matrix.{packets}
use Rattle.agreement.specs.Agreement.{handed_by, FirstWrong, SharedWithout}
use Rattle.agreement.proofs.FirstWrong.{one_place}
use Rattle.agreement.proofs.Theorems.{only_file, only_file_without, no_second}
use Rattle.present.specs.Steps.Places.{Present}
use Rattle.odd_report.specs.declared.Standing.{Standing}
use Rattle.odd_report.specs.declared.Report.{Report}
use Rattle.odd_report.specs.Standings.{nodes_where}
use Rattle.odd_one.specs.Calls.{Shows, Reports, odd_at}
use Rattle.odd_checks.proofs.Refusing.{present_here}

module _ (g : Group) (ids handed : List ℕ) (here : Present g ids handed) where
  -- all nodes stand as they do, and the buffer holds what it does
  pub shows_once :
      (s s' : ℕ → Standing) (file file' : List ℕ) → Shows g ids handed s file → Shows g ids handed s' file' → (s ≡ s') × (file ≡ file')
  shows_once s s' file file' (Shows.agree _ shared) (Shows.agree _ shared') =
      (refl, only_file g ids handed here.chosen here.spare file file' shared shared')
  shows_once s s' file file' (Shows.agree _ shared) (Shows.odd b place _ alone without first) = absurd (alone.not_all (file, shared))
  shows_once s s' file file' (Shows.agree _ shared) (Shows.several several) = absurd (several.not_all (file, shared))
  shows_once s s' file file' (Shows.odd b place _ alone without first) (Shows.agree _ shared) = absurd (alone.not_all (file', shared))
  shows_once s s' file file' (Shows.odd b place _ alone without first) (Shows.odd c place' _ alone' without' first') = (
    ap₂ {C = ℕ → Standing} (odd_at ids) same one,
    alike,
  )
    where
      same : b ≡ c
      same = no_second g ids handed here.chosen here.spare b c alone alone'

      alike : file ≡ file'
      alike =
          only_file_without g ids handed here.chosen here.spare b file file' without
          (subst (λ x. SharedWithout g ids handed x file') (sym same) without')

      one : place ≡ place'
      one =
          one_place (handed_by g ids handed b) (packets xors g file (ranked ids b)) place place' first
          (subst (λ f. FirstWrong (handed_by g ids handed b) (packets xors g f (ranked ids b)) place') (sym alike)
          (subst (λ x. FirstWrong (handed_by g ids handed x) (packets xors g file' (ranked ids x)) place') (sym same) first'))
  shows_once s s' file file' (Shows.odd b place _ alone without first) (Shows.several several) =
      absurd (several.not-one b alone)
  shows_once s s' file file' (Shows.several several) (Shows.agree _ shared) = absurd (several.not_all (file', shared))
  shows_once s s' file file' (Shows.several several) (Shows.odd b place _ alone without first) =
      absurd (several.not-one b alone)
  shows_once s s' file file' (Shows.several several) (Shows.several several') = (refl, refl)

-- one report
same_report : (r r' : Report) → check_number r.check ≡ check_number r'.check → r.nodes ≡ r'.nodes → r ≡ r'
same_report r r' c n = ap₂ (λ k m. record { check = k; nodes = m }) (check_once r.check r'.check c) n

pub reports_once :
    (g : Group) (ids handed before after after' : List ℕ) (r r' : Report) → Reports g ids handed before after r → Reports g ids handed before after' r'
    → (after ≡ after') × (r ≡ r')
reports_once g ids handed before after after' r r' (Reports.refused q is number nodes kept) (Reports.refused q' is' number' nodes' kept') =
    (kept ∙ sym kept', same_report r r' (number ∙ sym is ∙ is' ∙ sym number') (nodes ∙ sym nodes'))
reports_once g ids handed before after after' r r' (Reports.refused q is number nodes kept) (Reports.answered s' is' number' nodes' tells') =
    absurd (omega arith)
reports_once g ids handed before after after' r r' (Reports.answered s is number nodes tells) (Reports.refused q' is' number' nodes' kept') =
    absurd (omega arith)
reports_once g ids handed before after after' r r' (Reports.answered s is number nodes tells) (Reports.answered s' is' number' nodes' tells') =
    let w = shows_once g ids handed (present_here g ids (length handed) (length before) is handed refl) s s' after after' tells tells' in
    (w.1, same_report r r' (number ∙ sym number') (nodes ∙ ap (nodes_where ids) w.0 ∙ sym nodes'))
