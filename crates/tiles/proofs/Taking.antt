-- What lies before a tile is taken out of its runs sequence by sequence and rank by rank. It is read in rounds that no run of the tile reaches into, so that it stays what it was.
use mathlib.Core.Path.{◌≡◌, refl, sym, ap, ap₂, ◌∙◌}
use mathlib.Core.Logic.{inl, inr, ⊎_elim}
use Prim.Native.Nat.{ℕ, ◌+◌, ◌-◌, ◌≤◌, ◌<◌}
use native.Mathlib.Nat.{eq-or-lt_of_le}
use native.Mathlib.Omega.{arith}
use Rattle.letters.specs.Algebra.{Adding, sum}
use Rattle.letters.proofs.Cases.{le_or_lt}
use Rattle.letters.proofs.Sums.{sum_none_terms, sum_more}
use Rattle.system.specs.System.{Sequences}
use Rattle.system.specs.Order.{delay}
use Rattle.tiles.specs.Even.{lag}
use Rattle.tiles.specs.Turns.{Same, Only}
use Rattle.tiles.specs.Tile.{run_of, read_before, WithinTile, TakenTo, TakenOut}
use Rattle.tiles.proofs.Runs.{before_early, before_late, before_outside, before_same}

module _ {A : Type 0} (𝓐 : Adding A) (t : ℕ → ℕ → ℕ) (done m : ℕ) where
  -- What is read of sequence a is added to the places after `from` and up to `to` alone, since up to `from` its places lie below 1, and after `to` the tile has begun there or
  -- the sequence has ended.
  pub taken_piece :
      (n : ℕ) (y : ℕ → ℕ → A) → Sequences 𝓐.none n y → (b a from to : ℕ) (r r' : ℕ → A)
      → (1 ≤ from → done + from ≤ lag t b a + delay t a) → to ≤ lag t b a
      → ((p : ℕ) → to < p → p ≤ m → p ≤ lag t b a → n + (lag t b a + delay t a) < done + p)
      → ((p : ℕ) → 1 ≤ p → p ≤ from → p ≤ m → r' p ≡ r p)
      → ((p : ℕ) → from < p → p ≤ to → p ≤ m → r' p ≡ 𝓐.plus (r p) (y a (((done + p) - lag t b a) - delay t a)))
      → ((p : ℕ) → to < p → p ≤ m → r' p ≡ r p)
      → (p : ℕ) → 1 ≤ p → p ≤ m → r' p ≡ 𝓐.plus (r p) (read_before 𝓐.none t done y b p a)
  taken_piece n y ys b a from to r r' start short end low new high p lp hp =
      ⊎_elim
      (λ h.
      low p lp h hp
      ∙ nothing
      (before_outside 𝓐.none t done y b p a n ys 0 (below done p from (lag t b a) (delay t a) lp h start) (inl refl)))
      (λ h.
      ⊎_elim
      (λ l. new p h l hp ∙ ap (𝓐.plus (r p)) (sym (before_early 𝓐.none t done y b p a (omega arith))))
      (λ l.
      high p l hp
      ∙ nothing
      (⊎_elim
      (λ early.
      before_outside 𝓐.none t done y b p a n ys (((done + p) - lag t b a) - delay t a) refl
      (inr (above n done p (lag t b a) (delay t a) (end p l hp early))))
      (before_late 𝓐.none t done y b p a) (le_or_lt p (lag t b a))))
      (le_or_lt p to))
      (le_or_lt p from)
    where
      nothing : read_before 𝓐.none t done y b p a ≡ 𝓐.none → r p ≡ 𝓐.plus (r p) (read_before 𝓐.none t done y b p a)
      nothing e = sym (ap (𝓐.plus (r p)) e ∙ 𝓐.plus_none (r p))

      below : (done p from l d : ℕ) → 1 ≤ p → p ≤ from → (1 ≤ from → done + from ≤ l + d) → 0 ≡ ((done + p) - l) - d
      below done p from l d lp h start = let z = start (omega arith) in omega arith

      above : (n done p l d : ℕ) → n + (l + d) < done + p → n < ((done + p) - l) - d
      above n done p l d h = omega arith

  module _ (x : ℕ → ℕ → A) (b : ℕ) where
    -- of no sequence
    pub taken_start : (r : ℕ → A) → Same m (run_of 𝓐.none t done m x b) r → TakenTo 𝓐 t done m x b 0 r
    taken_start r same p lp hp =
        same p lp hp
        ∙ sym (ap (𝓐.plus (run_of 𝓐.none t done m x b p)) (sum_none_terms 𝓐 (read_before 𝓐.none t done x b p))
        ∙ 𝓐.plus_none (run_of 𝓐.none t done m x b p))

    -- of one sequence more, read from the sequences y as they are now
    pub taken_more :
        (s n below hi : ℕ) (y : ℕ → ℕ → A) → Sequences 𝓐.none n x → Sequences 𝓐.none n y → WithinTile s n t done m below hi x y
        → (c d : ℕ) → d ≡ c + 1 → d ≤ s → (r r' : ℕ → A) → TakenTo 𝓐 t done m x b c r
        → ((p : ℕ) → 1 ≤ p → p ≤ m → r' p ≡ 𝓐.plus (r p) (read_before 𝓐.none t done y b p d)) → TakenTo 𝓐 t done m x b d r'
    taken_more s n below hi y xs ys within c d next few r r' taken added p lp hp =
        added p lp hp
        ∙ ap₂ 𝓐.plus (taken p lp hp)
        (before_same 𝓐.none s n t done m below hi x y xs ys within b p d (omega arith) few ∙ ap (read_before 𝓐.none t done x b p) next)
        ∙ 𝓐.assoc (run_of 𝓐.none t done m x b p) (sum 𝓐 c (read_before 𝓐.none t done x b p)) (read_before 𝓐.none t done x b p (c + 1))
        ∙ ap (𝓐.plus (run_of 𝓐.none t done m x b p))
        (sym (ap (λ k. sum 𝓐 k (read_before 𝓐.none t done x b p)) next ∙ sum_more 𝓐 c (read_before 𝓐.none t done x b p)))

  module _ (below hi : ℕ) (x : ℕ → ℕ → A) where
    -- out of no run
    pub taken_out_start : TakenOut 𝓐 t done m below hi x below (run_of 𝓐.none t done m x)
    taken_out_start =
        record { taken = λ b lb hb. absurd (omega arith); rest = λ b lb hb p lp hp. refl }

    -- out of one run more
    pub taken_out_more :
        (c d : ℕ) → below ≤ c → d ≡ c + 1 → d ≤ hi → (g g' : ℕ → ℕ → A) → TakenOut 𝓐 t done m below hi x c g → Only below hi m d g g'
        → TakenTo 𝓐 t done m x d hi (g' d) → TakenOut 𝓐 t done m below hi x d g'
    taken_out_more c d lc next hd g g' out only here =
        record {
          taken =
              λ b lb hb.
              ⊎_elim (λ e. rw e here)
              (λ l p lp hp. only b lb (omega arith) (λ q. omega arith) p lp hp ∙ out.taken b lb (omega arith) p lp hp)
              (eq-or-lt_of_le hb);
          rest = λ b lb hb p lp hp. only b (omega arith) hb (λ q. omega arith) p lp hp ∙ out.rest b (omega arith) hb p lp hp;
        }
