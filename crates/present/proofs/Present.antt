-- Nodes that are present: how many, which, and how many letters they hold.
use native.Mathlib.Omega.{arith}
use mathlib.Core.Path.{◌≡◌, sym, ap, ap₂, subst, ◌∙◌}
use mathlib.Core.List.{List}
use mathlib.Core.Logic.{⊎_elim}
use Prim.Native.Nat.{ℕ, zero, suc, ◌+◌, ◌-◌, ◌*◌, ◌≤◌, ◌<◌}
use native.Mathlib.Nat.{mul-le-mul_right}
use lib.ListN.{length, get_or, set}
use Rattle.letters.proofs.Cases.{le_or_lt}
use Rattle.letters.proofs.Sums.{sum_at_most}
use Rattle.sums.proofs.Filled.{filled_more}
use Rattle.group.specs.declared.Group.{Group}
use Rattle.group.specs.Ranges.{NodeOf, most_letters}
use Rattle.lengths.specs.Lengths.{node_letters}
use Rattle.lengths.proofs.Sizes.{node_at_most}
use Rattle.sequences.specs.Lists.{ranked}
use Rattle.matrix.specs.Pieces.{Chosen}
use Rattle.agreement.specs.Agreement.{letters_of}
use Rattle.agreement.proofs.Handed.{letters_more}

module _ (g : Group) (ids : List ℕ) (c : Chosen g (length ids) ids) where
  -- they fall, so that the id of rank v has v - 1 above it
  room_above : (v : ℕ) → 1 ≤ v → v ≤ length ids → ranked ids v + v ≤ g.n + 1
  room_above zero lo hi = elim lo [ ]
  room_above (suc zero) lo hi = omega (arith, c.nodes.known 1 (omega arith) hi)
  room_above (suc (suc v)) lo hi =
      omega (arith, room_above (suc v) (omega arith) (omega arith), c.nodes.falling.falls (suc v) (suc (suc v)) (omega arith) (omega arith) hi)

  -- so there are at most n
  pub few_ids : length ids ≤ g.n
  few_ids =
      ⊎_elim (λ none. omega arith)
      (λ some. omega (arith, room_above (length ids) (omega arith) (omega arith), c.nodes.falling.from_one (length ids) (omega arith) (omega arith)))
      (le_or_lt (length ids) 0)

  pub rank_node : (v : ℕ) → 1 ≤ v → v ≤ length ids → NodeOf g (ranked ids v)
  rank_node v lo hi = record { group = c.group; low = c.nodes.falling.from_one v lo hi; high = c.nodes.known v lo hi }

  -- the code counts ranks from 0
  pub node_here : (v : ℕ) → v < length ids → NodeOf g (get_or ids v 0)
  unfolding ranked
  node_here v h = subst (λ i. NodeOf g (get_or ids i 0)) back (rank_node (v + 1) (omega arith) (omega arith))
    where
      back : v + 1 - 1 ≡ v
      back = omega arith

  pub letters_small : (v : ℕ) → v ≤ length ids → letters_of g ids v ≤ 16 * most_letters
  unfolding letters_of
  letters_small v h =
      omega (
        arith,
        sum_at_most v most_letters (λ w. node_letters g (ranked ids w)) (λ w lo hi. node_at_most g (ranked ids w) (rank_node w lo (omega arith))),
        mul-le-mul_right most_letters at_most,
      )
    where
      at_most : v ≤ 16
      at_most = omega (arith, few_ids, c.group.n-high)

-- one rank more: how many letters, and where the next ones start
module _ (g : Group) (ids : List ℕ) (c : Chosen g (length ids) ids) (v end letters : ℕ) (h : v < length ids) (so_far : end ≡ letters_of g ids v)
    (own : letters ≡ node_letters g (get_or ids v 0)) where
  pub end_next : end + letters ≡ letters_of g ids (v + 1)
  unfolding ranked
  end_next = ap₂ ◌+◌ so_far (own ∙ ap (λ i. node_letters g (get_or ids i 0)) forth) ∙ sym (letters_more g ids v)
    where
      forth : v ≡ v + 1 - 1
      forth = omega arith

  pub end_small : end + letters ≤ 16 * most_letters
  end_small = omega (arith, end_next, letters_small g ids c (v + 1) (omega arith))

  pub starts_more :
      (starts : List ℕ) → length starts ≡ 17 → ((i : ℕ) → i ≤ v → get_or starts i 0 ≡ letters_of g ids i)
      → (i : ℕ) → i ≤ v + 1 → get_or (set starts (v + 1) (end + letters)) i 0 ≡ letters_of g ids i
  starts_more starts long before i hi =
      filled_more starts (v + 1) (end + letters) (letters_of g ids) (omega (arith, few_ids g ids c, c.group.n-high)) (λ i l. before i (omega arith)) end_next i (omega arith)
