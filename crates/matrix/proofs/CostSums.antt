-- The counts are never more than the sums of document 01 (docs/SCHEME.md, 8), and those sums where no letter that comes out is zero: a run that is moved by m reaches L - m letters.
use mathlib.Core.Path.{◌≡◌, sym, ap, ap₂, ◌∙◌}
use mathlib.Core.List.{List}
use Prim.Native.Nat.{ℕ, ◌+◌, ◌-◌, ◌*◌, ◌≤◌, min}
use native.Mathlib.Omega.{arith}
use lib.ListN.{length}
use Rattle.letters.specs.Algebra.{xors, counts, sum}
use Rattle.letters.proofs.Sums.{sum_same, sum_below}
use Rattle.worth.specs.Worth.{NoZero}
use Rattle.shifts.specs.Rule.{t}
use Rattle.system.specs.System.{sequence}
use Rattle.system.specs.Count.{additions, cost, distance}
use Rattle.system.proofs.System.{sequence_inside}
use Rattle.system.proofs.Cost.{terms_at_most, terms_all, additions_at_most, additions_all, sequences_no_zero}
use Rattle.group.specs.declared.Group.{Group}
use Rattle.lengths.specs.Lengths.{repair_letters, file_letters}
use Rattle.sequences.specs.Lists.{ranked}
use Rattle.matrix.specs.Counts.{taking_out, recovery_count, recovery_cost, repair_count, repair_cost}
use Rattle.matrix.specs.Matrix.{matrix, entry_number}
use Rattle.matrix.specs.Pieces.{Chosen}
use Rattle.matrix.proofs.Columns.{entry_fits}
use Rattle.matrix.proofs.Product.{shift_rises, free}
use Rattle.matrix.proofs.Reading.{shifts}

module _ (g : Group) (lost : ℕ) (helpers rebuilt : List ℕ) where
  pub repair_at_most : repair_count g lost helpers rebuilt ≤ repair_cost g lost helpers
  unfolding repair_count repair_cost
  repair_at_most = additions_at_most g.d (repair_letters g lost) (shifts helpers) (sequence 0 rebuilt (repair_letters g lost))

  pub repair_all : length rebuilt ≡ g.d * repair_letters g lost → NoZero rebuilt → repair_count g lost helpers rebuilt ≡ repair_cost g lost helpers
  unfolding repair_count repair_cost
  repair_all long some =
      additions_all g.d (repair_letters g lost) (shifts helpers) (sequence 0 rebuilt (repair_letters g lost))
      (sequences_no_zero g.d (repair_letters g lost) rebuilt long some)

module _ (g : Group) (ids file : List ℕ) (chosen : Chosen g g.k ids) where
  -- how far a later column lies to the right in a piece
  apart : (u w : ℕ) → 1 ≤ w → w ≤ g.k → w ≤ u → distance (t (ranked ids w) u) (t (ranked ids w) w) ≡ t (ranked ids w) u - t (ranked ids w) w
  apart u w lw hk hu = no_further (shift_rises (ranked ids w) w u (chosen.nodes.falling.from_one w lw hk) lw hu)
    where
      no_further : t (ranked ids w) w ≤ t (ranked ids w) u → distance (t (ranked ids w) u) (t (ranked ids w) w) ≡ t (ranked ids w) u - t (ranked ids w) w
      no_further h = omega arith

  -- one run that is taken out
  run_at_most : (u v w : ℕ) → 1 ≤ w → w ≤ g.k → w ≤ u → taking_out g ids file u v w ≤ g.l - (t (ranked ids w) u - t (ranked ids w) w)
  unfolding taking_out
  run_at_most u v w lw hk hu = omega (arith, terms_at_most g.l (shifts ids) (matrix xors g file v u) w u, apart u w lw hk hu)

  run_all :
      (u v w : ℕ) → 1 ≤ w → w ≤ g.k → w ≤ u → ((q : ℕ) → 1 ≤ q → q ≤ g.l → matrix xors g file v u q ≡ 0 → ⊥)
      → taking_out g ids file u v w ≡ g.l - (t (ranked ids w) u - t (ranked ids w) w)
  unfolding taking_out
  run_all u v w lw hk hu some = terms_all g.l (shifts ids) (matrix xors g file v u) w u some ∙ ap (λ m. g.l - m) (apart u w lw hk hu)

  pub recovery_at_most : recovery_count g ids file ≤ recovery_cost g ids
  unfolding recovery_count recovery_cost
  recovery_at_most =
      omega (
        arith,
        sum_below g.d (λ u. additions (min u g.k) g.l (shifts ids) (λ a. matrix xors g file a u)) (λ u. cost (min u g.k) g.l (shifts ids))
            (λ u lo hi. additions_at_most (min u g.k) g.l (shifts ids) (λ a. matrix xors g file a u)),
        sum_below (g.d - 1) (λ u. sum counts (min u g.k) (λ v. sum counts v (λ w. taking_out g ids file (u + 1) v w)))
            (λ u. sum counts (min u g.k) (λ v. sum counts v (λ w. g.l - (t (ranked ids w) (u + 1) - t (ranked ids w) w))))
            (λ u lo hi.
            sum_below (min u g.k) (λ v. sum counts v (λ w. taking_out g ids file (u + 1) v w))
            (λ v. sum counts v (λ w. g.l - (t (ranked ids w) (u + 1) - t (ranked ids w) w)))
            (λ v lv hv.
            sum_below v (λ w. taking_out g ids file (u + 1) v w) (λ w. g.l - (t (ranked ids w) (u + 1) - t (ranked ids w) w))
            (λ w lw hw. run_at_most (u + 1) v w lw (omega arith) (omega arith)))),
      )

  module _ (long : length file ≡ file_letters g) (some : NoZero file) where
    -- no letter of a free entry is zero
    entry_no_zero : (v u : ℕ) → 1 ≤ v → v ≤ min u g.k → u ≤ g.d → (q : ℕ) → 1 ≤ q → q ≤ g.l → matrix xors g file v u q ≡ 0 → ⊥
    entry_no_zero v u lv hv hu q lq hq e =
        some.each ((entry_number g.k v u - 1) * g.l + (q - 1)) (omega (arith, entry_fits g chosen.group v u (omega arith) hu lv hv))
        (sym (sequence_inside 0 file g.l (entry_number g.k v u) q lq hq) ∙ sym (free xors g file v u q (omega arith) (omega arith)) ∙ e)

    pub recovery_all : recovery_count g ids file ≡ recovery_cost g ids
    unfolding recovery_count recovery_cost
    recovery_all =
        ap₂ ◌+◌
        (sum_same counts g.d (λ u. additions (min u g.k) g.l (shifts ids) (λ a. matrix xors g file a u)) (λ u. cost (min u g.k) g.l (shifts ids))
        (λ u lo hi.
        additions_all (min u g.k) g.l (shifts ids) (λ a. matrix xors g file a u) (λ a q la ha lq hq. entry_no_zero a u la ha hi q lq hq)))
        (sum_same counts (g.d - 1) (λ u. sum counts (min u g.k) (λ v. sum counts v (λ w. taking_out g ids file (u + 1) v w)))
        (λ u. sum counts (min u g.k) (λ v. sum counts v (λ w. g.l - (t (ranked ids w) (u + 1) - t (ranked ids w) w))))
        (λ u lo hi.
        sum_same counts (min u g.k) (λ v. sum counts v (λ w. taking_out g ids file (u + 1) v w))
        (λ v. sum counts v (λ w. g.l - (t (ranked ids w) (u + 1) - t (ranked ids w) w)))
        (λ v lv hv.
        sum_same counts v (λ w. taking_out g ids file (u + 1) v w) (λ w. g.l - (t (ranked ids w) (u + 1) - t (ranked ids w) w))
        (λ w lw hw. run_all (u + 1) v w lw (omega arith) (omega arith) (λ q lq hq. entry_no_zero v (u + 1) lv (omega arith) (omega arith) q lq hq)))))
