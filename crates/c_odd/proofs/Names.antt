-- What the call for C names.
use mathlib.Core.Path.{◌≡◌, refl, ap, subst, ◌∙◌}
use mathlib.Core.List.{List}
use native.Mathlib.Omega.{arith}
use Prim.Native.Nat.{ℕ, zero, suc}
use lib.Dec.{eqb}
use lib.ListN.{length}
use borrow.Author.Tests.{eqb-true}
use Rattle.group.specs.declared.Group.{Group}
use Rattle.group.specs.declared.Refusal.{Refusal}
use Rattle.group.specs.Answers.{refusal_number, unless}
use Rattle.group.proofs.Refusals.{never_zero, first_none, unless_none}
use Rattle.odd_report.specs.declared.Report.{Report}
use Rattle.odd_checks.specs.Refusals.{odd_refusal}
use Rattle.odd_one.specs.Calls.{Reports}
use Rattle.c_odd.specs.Odd.{report_numbers, told_refusal, Shown, Names}

-- a call that isn't refused has a report of 32 numbers, and isn't refused by the call behind it
module _ (g : Group) (ids : List ℕ) (packets file report : ℕ) (e : told_refusal g ids packets file report ≡ 0) where
  pub behind_fine : odd_refusal g ids packets file ≡ 0
  unfolding told_refusal
  behind_fine = (first_none (odd_refusal g ids packets file) (unless (eqb report 32) 6) e).0

  pub report_long : report ≡ 32
  unfolding told_refusal
  report_long =
      eqb-true report 32 (unless_none (eqb report 32) 6 (λ q. omega arith) (first_none (odd_refusal g ids packets file) (unless (eqb report 32) 6) e).1)

-- what it tells is what the call behind it reports
pub told_of :
    (g : Group) (ids handed before after report : List ℕ) (r : Report) → odd_refusal g ids (length handed) (length before) ≡ 0
    → Reports g ids handed before after r → report ≡ report_numbers r.nodes → Shown g ids handed after report
told_of g ids handed before after report r fine (Reports.refused q is number nodes kept) e = absurd (omega arith)
told_of g ids handed before after report r fine (Reports.answered standing is number nodes tells) e =
    record { standing = standing; tells = tells; numbers = e ∙ ap report_numbers nodes }

-- a refused call
names_refused :
    (g : Group) (ids handed before report : List ℕ) (refusal : Refusal) (r : ℕ)
    → refusal_number refusal ≡ told_refusal g ids (length handed) (length before) (length report) → r ≡ refusal_number refusal
    → Names g ids handed before before report report r
names_refused g ids handed before report refusal r e is = go (told_refusal g ids (length handed) (length before) (length report)) refl
  where
    go : (q : ℕ) → told_refusal g ids (length handed) (length before) (length report) ≡ q → Names g ids handed before before report report r
    go zero z = absurd (never_zero refusal (e ∙ z))
    go (suc q) z = Names.refused q z (is ∙ e ∙ z) refl refl

-- one that isn't refused
names_told :
    (g : Group) (ids handed before after report report' : List ℕ) (r : ℕ) → told_refusal g ids (length handed) (length before) (length report) ≡ 0
    → (r ≡ 0) × Shown g ids handed after report' → Names g ids handed before after report report' r
names_told g ids handed before after report report' r e w = Names.told e w.0 w.1

-- both for the group of the numbers that were handed in
module _ (g g' : Group) (same : g ≡ g') (ids handed before report : List ℕ) where
  pub refused_for :
      (refusal : Refusal) (r : ℕ) → refusal_number refusal ≡ told_refusal g ids (length handed) (length before) (length report) → r ≡ refusal_number refusal
      → Names g' ids handed before before report report r
  refused_for refusal r e is =
      subst (λ h. Names h ids handed before before report report r) same (names_refused g ids handed before report refusal r e is)

  pub told_for :
      (after report' : List ℕ) (r : ℕ) → told_refusal g ids (length handed) (length before) (length report) ≡ 0
      → (r ≡ 0) × Shown g ids handed after report' → Names g' ids handed before after report report' r
  told_for after report' r e w = subst (λ h. Names h ids handed before after report report' r) same (names_told g ids handed before after report report' r e w)
