-- The runs of a tile in a buffer of sequences: where letters of one change alone, nothing else does, since the runs of two ranks lie in two sequences and never meet.
use mathlib.Core.Path.{◌≡◌, sym, ap, ◌∙◌}
use mathlib.Core.List.{List}
use mathlib.Core.Logic.{◌⊎◌, inl, inr, ⊎_elim}
use Prim.Native.Nat.{ℕ, ◌+◌, ◌-◌, ◌*◌, ◌≤◌, ◌<◌}
use native.Mathlib.Nat.{eq-or-lt_of_le}
use native.Mathlib.Omega.{arith}
use lib.ListN.{get_or}
use Rattle.letters.proofs.Cases.{le_or_lt}
use Rattle.system.specs.System.{sequence}
use Rattle.system.specs.Order.{delay}
use Rattle.system.proofs.System.{index_of, index_below, sequence_inside}
use Rattle.tiles.specs.Turns.{Only}
use Rattle.tiles.specs.Tile.{run_of, start_of, Tile, WithinTile}
use Rattle.tiles.proofs.Runs.{run_inside}

-- The run of rank b of a tile, in a buffer of sequences.
module _ (s n : ℕ) (t : ℕ → ℕ → ℕ) (done m below hi : ℕ) (tile : Tile s n t done m below hi) (b : ℕ) (lb : below < b) (hb : b ≤ hi) where
  -- a letter of another sequence, or of another round, is outside that run
  pub outside :
      (a q : ℕ) → 1 ≤ a → 1 ≤ q → q ≤ n → (a ≡ b → done < delay t a + q → delay t a + q ≤ done + m → ⊥)
      → (index_of n a q < start_of t n done b) ⊎ (start_of t n done b + m ≤ index_of n a q)
  outside a q la lq hq apart =
      ⊎_elim
      (λ h.
      ⊎_elim own
      (λ l. inl (omega (arith, index_below (b - 1) n a q la (omega arith) lq hq)))
      (eq-or-lt_of_le h))
      (λ l. inr (ahead ((b - 1) * n) ((a - 1) * n) (index_below (a - 1) n b n (omega arith) (omega arith) (omega arith) (omega arith))))
      (le_or_lt a b)
    where
      ahead : (row row' : ℕ) → row + (n - 1) < row' → row + (done - delay t b) + m ≤ row' + (q - 1)
      ahead row row' l = fits row row' (done - delay t b) (tile_fits done m n (delay t b) (tile.begun b lb hb) (tile.not_over b lb hb)) l
        where
          tile_fits : (done m n d : ℕ) → d ≤ done → done + m ≤ n + d → (done - d) + m ≤ n
          tile_fits done m n d h l = omega arith

          fits : (row row' from : ℕ) → from + m ≤ n → row + (n - 1) < row' → row + from + m ≤ row' + (q - 1)
          fits row row' from h l = omega arith

      own : a ≡ b → (index_of n a q < start_of t n done b) ⊎ (start_of t n done b + m ≤ index_of n a q)
      own e =
          ⊎_elim
          (λ h. inl (rw e (early ((b - 1) * n) (delay t b) (omega (arith, ap (delay t) e)))))
          (λ h.
          ⊎_elim (λ upto. absurd (apart e h upto))
          (λ l. inr (rw e (late ((b - 1) * n) (delay t b) (tile.begun b lb hb) (omega (arith, ap (delay t) e)))))
          (le_or_lt (delay t a + q) (done + m)))
          (le_or_lt (delay t a + q) done)
        where
          early : (row d : ℕ) → d + q ≤ done → row + (q - 1) < row + (done - d)
          early row d h = omega arith

          late : (row d : ℕ) → d ≤ done → done + m < d + q → row + (done - d) + m ≤ row + (q - 1)
          late row d begun h = omega arith

-- Of a buffer of sequences, only letters of the run of rank b of a tile changed.
module _ {A : Type 0} (none : A) (s n : ℕ) (t : ℕ → ℕ → ℕ) (done m below hi : ℕ) (tile : Tile s n t done m below hi) (xs ys : List A) (b : ℕ)
    (lb : below < b) (hb : b ≤ hi)
    (same : (i : ℕ) → (i < start_of t n done b) ⊎ (start_of t n done b + m ≤ i) → get_or ys i none ≡ get_or xs i none) where
  -- so every other letter is as it was
  pub kept_outside :
      (a q : ℕ) → 1 ≤ a → 1 ≤ q → q ≤ n → (a ≡ b → done < delay t a + q → delay t a + q ≤ done + m → ⊥)
      → sequence none ys n a q ≡ sequence none xs n a q
  kept_outside a q la lq hq apart =
      sequence_inside none ys n a q lq hq
      ∙ same (index_of n a q) (outside s n t done m below hi tile b lb hb a q la lq hq apart)
      ∙ sym (sequence_inside none xs n a q lq hq)

  pub changed_within : WithinTile s n t done m below hi (sequence none xs n) (sequence none ys n)
  changed_within a q la ha lq hq out = kept_outside a q la lq hq (λ e after upto. out (omega arith) (omega arith) after upto)

  pub changed_only : Only below hi m b (run_of none t done m (sequence none xs n)) (run_of none t done m (sequence none ys n))
  changed_only a la ha ne p lp hp =
      run_inside none t done m (sequence none ys n) a p lp hp
      ∙ kept_outside a ((done - delay t a) + p) (omega arith) (omega arith)
      (inner done m n (delay t a) p hp (tile.begun a la ha) (tile.not_over a la ha)) (λ e. absurd (ne e))
      ∙ sym (run_inside none t done m (sequence none xs n) a p lp hp)
    where
      inner : (done m n d p : ℕ) → p ≤ m → d ≤ done → done + m ≤ n + d → (done - d) + p ≤ n
      inner done m n d p hp begun over = omega arith
