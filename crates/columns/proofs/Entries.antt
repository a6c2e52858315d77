-- The later columns taken out of one, entry by entry.
use mathlib.Core.Path.{◌≡◌, refl, sym, ap, ap₂, subst, ◌∙◌}
use mathlib.Core.List.{List}
use mathlib.Core.Logic.{⊎_elim}
use Prim.Native.Nat.{ℕ, ◌+◌, ◌-◌, ◌≤◌, ◌<◌}
use native.Mathlib.Omega.{arith}
use lib.Bits.{bit_xor, xor_zero_r}
use Rattle.letters.specs.Algebra.{xors}
use Rattle.letters.proofs.Cases.{eq_or_ne}
use Rattle.letters.proofs.Sums.{sum_none}
use Rattle.group.specs.declared.Group.{Group}
use Rattle.matrix.proofs.Product.{corner}
use Rattle.column_runs.specs.Steps.Runs.{standing, seen_at, from_column, from_next, Grown}
use Rattle.columns.specs.Steps.Columns.{Pulled}
use Rattle.column_runs.proofs.Pulling.{same_next}

-- none yet, and one more
module _ (g : Group) (ids buffer : List ℕ) (v : ℕ) where
  pub pull_none : Pulled g ids v 0 buffer buffer
  pull_none =
      record { same_length = refl; here = λ w p lw hw lp hp. absurd (omega arith); there = λ y x p lx hx ly hy past. refl }

  pub pull_next :
      (m : ℕ) (mid after : List ℕ) → m < v → v ≤ g.k → v ≤ g.d → Pulled g ids v m buffer mid
      → Grown g v (m + 1) 0 g.l (from_next g ids mid v (m + 1) (g.d - v)) mid after → Pulled g ids v (m + 1) buffer after
  pull_next m mid after hm hk hd done grown =
      record {
        same_length = grown.same_length ∙ done.same_length;
        here =
            λ w p lw hw lp hp.
            ⊎_elim
            (λ q.
            subst (λ y. standing g after y v p ≡ bit_xor (standing g buffer y v p) (from_next g ids buffer v y (g.d - v) p)) (sym q)
            (grown.here p lp hp
            ∙ ap₂ bit_xor (done.there (m + 1) v p (omega arith) hd (omega arith) (omega arith) (λ z. omega arith))
            (same_next g ids v buffer mid (λ u p low later hu. done.there v u p (omega arith) hu (omega arith) (omega arith) (λ z. absurd (omega arith))) (m + 1) p)))
            (λ ne. grown.there w v p (omega arith) hd lw (omega arith) (λ z q. ne q) ∙ done.here w p lw (omega arith) lp hp)
            (eq_or_ne w (m + 1));
        there =
            λ y x p lx hx ly hy past.
            grown.there y x p lx hx ly hy (λ z q. omega (arith, past z)) ∙ done.there y x p lx hx ly hy (λ z. omega (arith, past z));
      }

  -- past column k there is nothing to take
  pub pull_corner : (m : ℕ) → g.k < v → Pulled g ids v m buffer buffer
  pull_corner m high =
      record {
        same_length = refl;
        here =
            λ w p lw hw lp hp.
            sym (xor_zero_r (standing g buffer w v p))
            ∙ ap (bit_xor (standing g buffer w v p))
            (sym
            (sum_none xors (g.d - v) (λ j. from_column g ids buffer v w (v + j) p)
            (λ j lo hi. corner xors g buffer v (v + j) (seen_at ids w (v + j) p) high (omega arith))));
        there = λ y x p lx hx ly hy past. refl;
      }
