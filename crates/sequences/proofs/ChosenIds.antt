-- Ids that the checks let through are chosen: as many as wanted, of the group, and falling. So they are ranks that the solver can take, under any even rule with refined increasing differences.
use mathlib.Core.Path.{◌≡◌}
use mathlib.Core.List.{List}
use Prim.Native.Nat.{ℕ, ◌+◌, ◌-◌, ◌*◌, ◌≤◌}
use native.Mathlib.Omega.{arith}
use lib.Dec.{eqb}
use lib.ListN.{length}
use borrow.Author.Tests.{eqb-true}
use Rattle.letters.specs.Places.{both}
use Rattle.shifts.specs.Rule.{ShiftRule, Refined}
use Rattle.group.specs.declared.Group.{Group}
use Rattle.group.specs.Answers.{unless}
use Rattle.group.proofs.Refusals.{first_none, unless_none, both_true}
use Rattle.ids.specs.Ids.{all_in_range, falling, ids_refusal}
use Rattle.ids.proofs.Ids.{in_range_at, falls_at}
use Rattle.sequences.specs.Chosen.{ChosenIds}
use Rattle.sequences.specs.Lists.{ranked}
use Rattle.sequences.specs.Steps.Rows.{Known}
use Rattle.sequences.proofs.Charted.{Ranks}

pub chosen_ids : (g : Group) (wanted : ℕ) (ids : List ℕ) → ids_refusal g wanted ids ≡ 0 → ChosenIds g.n wanted ids
unfolding ids_refusal ranked
chosen_ids g wanted ids e =
    let w = first_none (unless (both (eqb (length ids) wanted) (all_in_range g.n ids)) 3) (unless (falling ids) 4) e in
    let b = both_true (eqb (length ids) wanted) (all_in_range g.n ids) (unless_none (both (eqb (length ids) wanted) (all_in_range g.n ids)) 3 (λ q. omega arith) w.0) in
    let many = eqb-true (length ids) wanted b.0 in
    let falls = unless_none (falling ids) 4 (λ q. omega arith) w.1 in
    record {
      many = many;
      falling =
          record {
            from_one = λ a la ha. (in_range_at g.n ids b.1 (a - 1) (omega arith)).0;
            falls = λ a b' la h hb. falls_at ids falls (a - 1) (b' - 1) (omega arith) (omega arith);
          };
      known = λ v lv hv. (in_range_at g.n ids b.1 (v - 1) (omega arith)).1;
    }

module _ (n wanted : ℕ) (ids : List ℕ) (c : ChosenIds n wanted ids) (nodes : n ≤ 16) (few : wanted ≤ 16) where
  -- chosen ids fit the rows
  pub known_ids : Known ids
  unfolding ranked
  known_ids =
      record {
        few = omega (arith, c.many);
        low = λ q l. rw (back q) at (c.falling.from_one (q + 1) (omega arith) (omega (arith, c.many)));
        high = λ q l. omega (arith, rw (back q) at (c.known (q + 1) (omega arith) (omega (arith, c.many))));
      }
    where
      back : (q : ℕ) → q + 1 - 1 ≡ q
      back q = omega arith

  pub chosen_ranks :
      (rule : ShiftRule) → Refined rule → ((i j : ℕ) → i ≤ 16 → j ≤ 16 → rule i j ≤ 65535) → ((i j : ℕ) → rule i j ≡ rule i 2 * (j - 1))
      → Ranks rule wanted ids
  chosen_ranks rule refined small even =
      record {
        refined = refined;
        many = c.many;
        few = few;
        falling = c.falling;
        small = λ b a lb hb la ha. small (ranked ids b) a (omega (arith, c.known b lb hb)) (omega arith);
        even = λ b a lb hb la ha. even (ranked ids b) a;
      }
