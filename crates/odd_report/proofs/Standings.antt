-- How nodes stand, by how many are wrong; and the sixteen entries, one after another.
use native.Mathlib.Omega.{arith}
use mathlib.Core.Path.{◌≡◌, refl, sym, ap, ◌∙◌}
use mathlib.Core.Bool.{true, false}
use mathlib.Core.List.{List, []}
use mathlib.Core.Logic.{⊎_elim}
use Prim.Native.Nat.{ℕ, ◌+◌, ◌≤◌, ◌<◌}
use lib.ListN.{length, get_or, set}
use lib.Seq.{get_or-set_same, get_or-set_other}
use borrow.Author.Tests.{le-leb, lt-leb, eq-eqb, ne_eqb}
use Rattle.letters.proofs.Cases.{eq_or_ne}
use Rattle.ids.specs.Ids.{among}
use Rattle.sequences.specs.Lists.{ranked}
use Rattle.sequences.proofs.Lists.{length_run, is_run}
use Rattle.comparing_nodes.specs.declared.Found.{Found}
use Rattle.comparing_nodes.specs.declared.Found.TheVariants.{Nobody, One, Several}
use Rattle.comparing_nodes.specs.declared.Wrong.{Wrong}
use Rattle.comparing_nodes.specs.Steps.Noting.{wrong_nodes, wrong_rank, wrong_place}
use Rattle.odd_report.specs.declared.Standing.{Standing}
use Rattle.odd_report.specs.declared.Standing.TheVariants.{Absent, Agreeing, Unknown, Odd}
use Rattle.odd_report.specs.declared.Node.{Node}
use Rattle.odd_report.specs.Standings.{standing_in, nodes_where, all_absent}
use Rattle.odd_report.specs.Steps.ByCount.{standing_by, odd_id}

-- an entry
abbrev pub node_with : Standing → Node
node_with s = record { standing = s }

module _ (wrong odd place i : ℕ) where
  pub by_several : 2 ≤ wrong → standing_by wrong odd place i ≡ Unknown
  unfolding standing_by
  by_several h = simp (le-leb 2 wrong h) refl

  pub by_none : wrong ≡ 0 → standing_by wrong odd place i ≡ Agreeing
  unfolding standing_by
  by_none e = simp (lt-leb 2 wrong (omega arith), eq-eqb wrong 0 e) refl

  pub by_odd : wrong < 2 → (wrong ≡ 0 → ⊥) → i ≡ odd → standing_by wrong odd place i ≡ Odd place
  unfolding standing_by
  by_odd h ne e = simp (lt-leb 2 wrong h, ne_eqb wrong 0 ne, eq-eqb i odd e) refl

  pub by_other : wrong < 2 → (wrong ≡ 0 → ⊥) → (i ≡ odd → ⊥) → standing_by wrong odd place i ≡ Agreeing
  unfolding standing_by
  by_other h ne other = simp (lt-leb 2 wrong h, ne_eqb wrong 0 ne, ne_eqb i odd other) refl

-- a node that is among the ids, and one that isn't
module _ (ids : List ℕ) (standing : ℕ → Standing) (i : ℕ) where
  pub in_present : among i ids ≡ true → standing_in ids standing i ≡ standing i
  unfolding standing_in
  in_present e = simp e refl

  pub in_absent : among i ids ≡ false → standing_in ids standing i ≡ Absent
  unfolding standing_in
  in_absent e = simp e refl

-- sixteen entries, each as it should be
pub are_nodes :
    (ids : List ℕ) (standing : ℕ → Standing) (nodes : List Node) → length nodes ≡ 16
    → ((q : ℕ) → q < 16 → get_or nodes q (node_with Absent) ≡ node_with (standing_in ids standing (q + 1))) → nodes ≡ nodes_where ids standing
unfolding nodes_where
are_nodes ids standing nodes long each = is_run (node_with Absent) 16 (λ i. node_with (standing_in ids standing i)) nodes long each

-- the id of the odd one
pub odd_named : (ids : List ℕ) (found : Found) → wrong_nodes found ≡ 1 → odd_id ids found ≡ ranked ids (wrong_rank found)
unfolding odd_id
odd_named ids found e = simp (eq-eqb (wrong_nodes found) 1 e) refl

pub odd_none : (ids : List ℕ) (found : Found) → (wrong_nodes found ≡ 1 → ⊥) → odd_id ids found ≡ 0
unfolding odd_id
odd_none ids found ne = simp (ne_eqb (wrong_nodes found) 1 ne) refl

-- how a node that is present stands, by what was found
module _ (ids : List ℕ) (i : ℕ) where
  abbrev pub standing_after : Found → Standing
  standing_after found = standing_by (wrong_nodes found) (odd_id ids found) (wrong_place found) i

  pub after_nobody : (found : Found) → found ≡ Nobody → standing_after found ≡ Agreeing
  after_nobody found e = by_none _ _ _ i (ap wrong_nodes e)

  pub after_one : (found : Found) (w : Wrong) → found ≡ One w → i ≡ ranked ids w.rank → standing_after found ≡ Odd w.place
  after_one found w e same =
      ap standing_after e ∙ by_odd 1 (odd_id ids (One w)) w.place i (omega arith) (λ z. omega arith) (same ∙ sym (odd_named ids (One w) refl))

  pub after_another : (found : Found) (w : Wrong) → found ≡ One w → (i ≡ ranked ids w.rank → ⊥) → standing_after found ≡ Agreeing
  after_another found w e other =
      ap standing_after e ∙ by_other 1 (odd_id ids (One w)) w.place i (omega arith) (λ z. omega arith) (λ same. other (same ∙ odd_named ids (One w) refl))

  pub after_several : (found : Found) → found ≡ Several → standing_after found ≡ Unknown
  after_several found e = ap standing_after e ∙ by_several 2 (odd_id ids Several) 0 i (omega arith)

pub length_absent : length all_absent ≡ 16
unfolding nodes_where
length_absent = length_run 16 (λ i. node_with (standing_in [] (λ i. Absent) i))

-- one entry more
pub nodes_more :
    (f : ℕ → Standing) (nodes : List Node) (i : ℕ) (x : Standing) → i < length nodes → x ≡ f (i + 1)
    → ((q : ℕ) → q < i → get_or nodes q (node_with Absent) ≡ node_with (f (q + 1)))
    → (q : ℕ) → q < i + 1 → get_or (set nodes i (node_with x)) q (node_with Absent) ≡ node_with (f (q + 1))
nodes_more f nodes i x h e before q l =
    ⊎_elim
    (λ is. ap (λ j. get_or (set nodes i (node_with x)) j (node_with Absent)) is ∙ get_or-set_same nodes i (node_with x) (node_with Absent) h ∙ ap node_with (e ∙ ap (λ j. f (j + 1)) (sym is)))
    (λ ne. get_or-set_other nodes i q (node_with x) (node_with Absent) (λ same. ne same) ∙ before q (omega arith))
    (eq_or_ne q i)
