-- What was found is what the report tells.
use native.Mathlib.Omega.{arith}
use mathlib.Core.Path.{◌≡◌, refl, sym, ap, subst, ◌∙◌, fun_ext}
use mathlib.Core.List.{List}
use mathlib.Core.Logic.{⊎_elim}
use Prim.Native.Nat.{ℕ, zero, suc, ◌≤◌, ◌<◌}
use lib.ListN.{length, replicate, get_or}
use Rattle.std.proofs.lemmas.List.{get_or-replicate}
use borrow.Author.Tests.{eq-eqb, ne_eqb}
use Rattle.letters.proofs.Cases.{eq_or_ne}
use Rattle.group.specs.declared.Group.{Group}
use Rattle.group.specs.declared.Refusal.{Refusal}
use Rattle.group.specs.Answers.{refusal_number, check_number}
use Rattle.group.proofs.Refusals.{never_zero}
use Rattle.lengths.specs.Lengths.{file_letters}
use Rattle.sequences.specs.Lists.{ranked}
use Rattle.sequences.proofs.Lists.{is_run}
use Rattle.std.specs.Prelude.{Ok, Err}
use Rattle.comparing_nodes.specs.declared.Found.{Found}
use Rattle.comparing_nodes.specs.Steps.Noting.{wrong_nodes, wrong_rank, wrong_place}
use Rattle.trying.specs.Searched.{Searched}
use Rattle.odd_report.specs.declared.Standing.{Standing}
use Rattle.odd_report.specs.declared.Standing.TheVariants.{Agreeing, Unknown}
use Rattle.odd_report.specs.declared.Report.{Report}
use Rattle.odd_checks.specs.Refusals.{odd_refusal}
use Rattle.odd_report.specs.Standings.{nodes_where, all_absent}
use Rattle.odd_one.specs.Calls.{zero_file, Shows, Reports, odd_at}
use Rattle.odd_report.specs.Steps.ByCount.{standing_by, odd_id, Named}
use Rattle.odd_report.proofs.Standings.{by_several, by_none, by_odd, by_other, odd_named}

-- a refused call
pub refused_reports :
    (g : Group) (ids handed before : List ℕ) (refusal : Refusal) (r : Report) → refusal_number refusal ≡ odd_refusal g ids (length handed) (length before)
    → (r.check ≡ Err refusal) × (r.nodes ≡ all_absent) → Reports g ids handed before before r
refused_reports g ids handed before refusal r e w = go (odd_refusal g ids (length handed) (length before)) refl
  where
    go : (q : ℕ) → odd_refusal g ids (length handed) (length before) ≡ q → Reports g ids handed before before r
    go zero is = absurd (never_zero refusal (e ∙ is))
    go (suc q) is = Reports.refused q is (ap check_number w.0 ∙ e ∙ is) w.1 refl

-- where one is wrong, its rank is one of the ids'
pub named_rank : (g : Group) (ids handed file : List ℕ) (found : Found) → Searched g ids handed file (wrong_nodes found) (wrong_rank found) (wrong_place found) → Named ids found
named_rank g ids handed file found s =
    record {
      low = λ e. (one (wrong_nodes found) (wrong_rank found) (wrong_place found) e s).0;
      high = λ e. (one (wrong_nodes found) (wrong_rank found) (wrong_place found) e s).1;
    }
  where
    one : (w c p : ℕ) → w ≡ 1 → Searched g ids handed file w c p → (1 ≤ c) × (c ≤ length ids)
    one w c p e (Searched.agree _ _ shared) = absurd (omega arith)
    one w c p e (Searched.odd _ _ alone without first) = (alone.low, alone.high)
    one w c p e (Searched.several _ _ several) = absurd (omega arith)

-- a buffer that was cleared is a file of zeros
pub cleared : (g : Group) (before after : List ℕ) → length before ≡ file_letters g → length after ≡ length before → after ≡ replicate (length before) 0 → after ≡ zero_file g
unfolding zero_file
cleared g before after long same zeros =
    is_run 0 (file_letters g) (λ p. 0) after (same ∙ long) (λ q h. ap (λ xs. get_or xs q 0) zeros ∙ get_or-replicate (length before) q 0 0 (omega arith))

module _ (g : Group) (ids handed : List ℕ) where
  -- two standings that are the same for every node
  shows_as :
      (s s' : ℕ → Standing) (file : List ℕ) → ((i : ℕ) → s i ≡ s' i) → Shows g ids handed s file → Shows g ids handed s' file
  shows_as s s' file e t = subst (λ f. Shows g ids handed f file) (fun_ext e) t

  settled :
      (w c p : ℕ) (file : List ℕ) (odd : ℕ) → w < 2 → (w ≡ 1 → odd ≡ ranked ids c) → Searched g ids handed file w c p
      → Shows g ids handed (standing_by w odd p) file
  settled w c p file odd few named_rank (Searched.agree _ _ shared) =
      shows_as (λ i. Agreeing) (standing_by 0 odd p) file (λ i. sym (by_none 0 odd p i refl)) (Shows.agree file shared)
  settled w c p file odd few named_rank (Searched.odd _ _ alone without first) =
      shows_as (odd_at ids c p) (standing_by 1 odd p) file
      (λ i.
      ⊎_elim
      (λ e.
      simp (eq-eqb i (ranked ids c) e) (sym (by_odd 1 odd p i (omega arith) (λ z. omega arith) (e ∙ sym (named_rank refl)))))
      (λ ne.
      simp (ne_eqb i (ranked ids c) ne) (sym (by_other 1 odd p i (omega arith) (λ z. omega arith) (λ e. ne (e ∙ named_rank refl)))))
      (eq_or_ne i (ranked ids c)))
      (Shows.odd c p file alone without first)
  settled w c p file odd few named_rank (Searched.several _ _ several) = absurd (omega arith)

  unsettled :
      (w c p : ℕ) (file : List ℕ) (odd : ℕ) → 2 ≤ w → Searched g ids handed file w c p → Shows g ids handed (standing_by w odd p) (zero_file g)
  unsettled w c p file odd more (Searched.agree _ _ shared) = absurd (omega arith)
  unsettled w c p file odd more (Searched.odd _ _ alone without first) = absurd (omega arith)
  unsettled w c p file odd more (Searched.several _ _ several) =
      shows_as (λ i. Unknown) (standing_by 2 odd p) (zero_file g) (λ i. sym (by_several 2 odd p i (omega arith))) (Shows.several several)

  -- a call that isn't refused
  module _ (before : List ℕ) (fine : odd_refusal g ids (length handed) (length before) ≡ 0) (found : Found) (r : Report)
      (w : (r.check ≡ Ok tt) × (r.nodes ≡ nodes_where ids (standing_by (wrong_nodes found) (odd_id ids found) (wrong_place found)))) where
    pub settled_reports :
        (after : List ℕ) → (wrong_nodes found) < 2 → Searched g ids handed after (wrong_nodes found) (wrong_rank found) (wrong_place found) → Reports g ids handed before after r
    settled_reports after few s =
        Reports.answered (standing_by (wrong_nodes found) (odd_id ids found) (wrong_place found)) fine (ap check_number w.0) w.1
        (settled (wrong_nodes found) (wrong_rank found) (wrong_place found) after (odd_id ids found) few (λ e. odd_named ids found e) s)

    pub unsettled_reports :
        (file after : List ℕ) → 2 ≤ (wrong_nodes found) → Searched g ids handed file (wrong_nodes found) (wrong_rank found) (wrong_place found) → after ≡ zero_file g
        → Reports g ids handed before after r
    unsettled_reports file after more s zeros =
        Reports.answered (standing_by (wrong_nodes found) (odd_id ids found) (wrong_place found)) fine (ap check_number w.0) w.1
        (subst (Shows g ids handed (standing_by (wrong_nodes found) (odd_id ids found) (wrong_place found))) (sym zeros)
        (unsettled (wrong_nodes found) (wrong_rank found) (wrong_place found) file (odd_id ids found) more s))
