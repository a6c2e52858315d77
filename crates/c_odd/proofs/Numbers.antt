-- The report's numbers, two for each node.
use native.Mathlib.Omega.{arith}
use mathlib.Core.Path.{◌≡◌, refl, sym, ap, ◌∙◌}
use mathlib.Core.List.{List, [], ◌∷◌}
use mathlib.Core.Logic.{⊎_elim}
use Prim.Native.Nat.{ℕ, zero, suc, ◌+◌, ◌-◌, ◌≤◌, ◌<◌}
use lib.ListN.{length, get_or, set, length-set}
use lib.Seq.{get_or-set_same, get_or-set_other}
use Rattle.letters.proofs.Cases.{eq_or_ne}
use Rattle.sequences.proofs.Lists.{ListStarts, is_joined}
use Rattle.odd_report.specs.declared.Standing.TheVariants.{Absent}
use Rattle.odd_report.specs.declared.Node.{Node}
use Rattle.c_odd.specs.Odd.{state_number, place_number, entry_of, report_numbers}

-- the two numbers of the first i nodes stand in the report
pub record NumbersPut (nodes : List Node) (report : List ℕ) (i : ℕ) : Type 0 where
  pub long : length report ≡ 32
  pub states : (u : ℕ) → u < i → get_or report (u + u) 0 ≡ state_number (get_or nodes u (record { standing = Absent })).standing
  pub places : (u : ℕ) → u < i → get_or report (u + u + 1) 0 ≡ place_number (get_or nodes u (record { standing = Absent })).standing

module _ (nodes : List Node) where
  pub put_none : (report : List ℕ) → length report ≡ 32 → NumbersPut nodes report 0
  put_none report long = record { long = long; states = λ u h. absurd (omega arith); places = λ u h. absurd (omega arith) }

  -- one node more
  module _ (report : List ℕ) (i s p : ℕ) (few : i < 16) (is : s ≡ state_number (get_or nodes i (record { standing = Absent })).standing)
      (at : p ≡ place_number (get_or nodes i (record { standing = Absent })).standing) (before : NumbersPut nodes report i) where
    abbrev after : List ℕ
    after = set (set report (i + i) s) (i + i + 1) p

    -- elsewhere it is as it was
    elsewhere : (q : ℕ) → (q ≡ i + i → ⊥) → (q ≡ i + i + 1 → ⊥) → get_or after q 0 ≡ get_or report q 0
    elsewhere q ne ne' =
        get_or-set_other (set report (i + i) s) (i + i + 1) q p 0 (λ e. ne' e)
        ∙ get_or-set_other report (i + i) q s 0 (λ e. ne e)

    own_state : get_or after (i + i) 0 ≡ s
    own_state =
        get_or-set_other (set report (i + i) s) (i + i + 1) (i + i) p 0 (λ e. omega arith)
        ∙ get_or-set_same report (i + i) s 0 (omega (arith, before.long))

    own_place : get_or after (i + i + 1) 0 ≡ p
    own_place = get_or-set_same (set report (i + i) s) (i + i + 1) p 0 (simp length-set (omega (arith, before.long)))

    pub put_more : NumbersPut nodes after (i + 1)
    put_more =
        record {
          long = simp length-set before.long;
          states =
              λ u h.
              ⊎_elim
              (λ e. ap (λ j. get_or after (j + j) 0) e ∙ own_state ∙ is ∙ ap (λ j. state_number (get_or nodes j (record { standing = Absent })).standing) (sym e))
              (λ ne. elsewhere (u + u) (λ e. omega arith) (λ e. omega arith) ∙ before.states u (omega arith))
              (eq_or_ne u i);
          places =
              λ u h.
              ⊎_elim
              (λ e. ap (λ j. get_or after (j + j + 1) 0) e ∙ own_place ∙ at ∙ ap (λ j. place_number (get_or nodes j (record { standing = Absent })).standing) (sym e))
              (λ ne. elsewhere (u + u + 1) (λ e. omega arith) (λ e. omega arith) ∙ before.places u (omega arith))
              (eq_or_ne u i);
        }

  -- all nodes
  abbrev pair : ℕ → List ℕ
  pair i = state_number (entry_of nodes i) ∷ (place_number (entry_of nodes i) ∷ [])

  starts : ListStarts 16 pair (λ i. (i - 1) + (i - 1))
  starts = record { first = refl; next = λ i lo hi. further i lo }
    where
      further : (i : ℕ) → 1 ≤ i → i + 1 - 1 + (i + 1 - 1) ≡ i - 1 + (i - 1) + 2
      further i lo = omega arith

  pub put_all : (report : List ℕ) (i : ℕ) → i ≡ 16 → NumbersPut nodes report i → report ≡ report_numbers nodes
  unfolding report_numbers
  put_all report i e w =
      is_joined 0 16 pair (λ i. (i - 1) + (i - 1)) starts report w.long (λ u q lu hu l. letter u q lu hu l)
    where
      letter : (u q : ℕ) → 1 ≤ u → u ≤ 16 → q < 2 → get_or report (u - 1 + (u - 1) + q) 0 ≡ get_or (pair u) q 0
      letter u zero lo hi h = ap (λ j. get_or report j 0) back ∙ w.states (u - 1) (omega arith)
        where
          back : u - 1 + (u - 1) + 0 ≡ u - 1 + (u - 1)
          back = omega arith
      letter u (suc zero) lo hi h = w.places (u - 1) (omega arith)
      letter u (suc (suc q)) lo hi h = absurd (omega arith)
