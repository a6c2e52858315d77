-- What the nodes handed in stands one after another: where it starts, where it ends, how much it is.
use mathlib.Core.Path.{◌≡◌, sym, ap, ◌∙◌}
use mathlib.Core.List.{List}
use Prim.Native.Nat.{ℕ, ◌+◌, ◌-◌, ◌≤◌, ◌<◌}
use native.Mathlib.Omega.{arith}
use lib.ListN.{length, get_or, drop, length-drop}
use lib.Seq.{get_or-take, get_or-drop, length-take-le}
use Rattle.letters.specs.Algebra.{counts}
use Rattle.letters.proofs.Sums.{sum_more, sum_none_terms, sum_split}
use Rattle.group.specs.declared.Group.{Group}
use Rattle.lengths.specs.Lengths.{node_letters}
use Rattle.sequences.specs.Lists.{ranked}
use Rattle.agreement.specs.Agreement.{letters_of, handed_by}

module _ (g : Group) (ids : List ℕ) where
  pub letters_none : letters_of g ids 0 ≡ 0
  unfolding letters_of
  letters_none = sum_none_terms counts (λ v. node_letters g (ranked ids v))

  -- one rank more
  pub letters_more : (v : ℕ) → letters_of g ids (v + 1) ≡ letters_of g ids v + node_letters g (ranked ids (v + 1))
  unfolding letters_of
  letters_more v = sum_more counts v (λ v. node_letters g (ranked ids v))

  -- more ranks have no fewer letters
  pub letters_rise : (v w : ℕ) → v ≤ w → letters_of g ids v ≤ letters_of g ids w
  unfolding letters_of
  letters_rise v w h =
      let rest : w ≡ v + (w - v) = omega arith in
      rw rest (omega (arith, sum_split counts v (w - v) (λ v. node_letters g (ranked ids v))))

  -- those of rank v end where the next ones start
  pub letters_end : (v : ℕ) → 1 ≤ v → letters_of g ids (v - 1) + node_letters g (ranked ids v) ≡ letters_of g ids v
  letters_end v lo =
      let back : v - 1 + 1 ≡ v = omega arith in
      sym (ap (letters_of g ids) (sym back) ∙ letters_more (v - 1) ∙ ap (λ w. letters_of g ids (v - 1) + node_letters g (ranked ids w)) back)

  module _ (handed : List ℕ) (long : length handed ≡ letters_of g ids (length ids)) (v : ℕ) (lo : 1 ≤ v) (hi : v ≤ length ids) where
    pub ends_inside : letters_of g ids (v - 1) + node_letters g (ranked ids v) ≤ length handed
    ends_inside = omega (arith, letters_end v lo, letters_rise v (length ids) hi)

    pub length_handed : length (handed_by g ids handed v) ≡ node_letters g (ranked ids v)
    unfolding handed_by
    length_handed =
        length-take-le (node_letters g (ranked ids v)) (drop (letters_of g ids (v - 1)) handed)
        (rw length-drop (omega (arith, ends_inside)))

    -- a letter of it
    pub handed_at : (q : ℕ) → q < node_letters g (ranked ids v) → get_or (handed_by g ids handed v) q 0 ≡ get_or handed (letters_of g ids (v - 1) + q) 0
    unfolding handed_by
    handed_at q h =
        get_or-take (node_letters g (ranked ids v)) (drop (letters_of g ids (v - 1)) handed) q 0 h ∙ get_or-drop (letters_of g ids (v - 1)) handed q 0
