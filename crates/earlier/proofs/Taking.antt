-- What lies before a tile is taken out sequence by sequence and rank by rank. What a run reads of it is as it was when the first was taken out, since only runs of the tile change.
use mathlib.Core.Path.{◌≡◌, refl, ap₂, ◌∙◌}
use mathlib.Core.List.{List}
use mathlib.Core.Logic.{⊎_elim}
use Prim.Native.Nat.{ℕ, ◌+◌, ◌≤◌, ◌<◌}
use native.Mathlib.Omega.{arith}
use lib.Bits.{bit_xor}
use Rattle.letters.specs.Algebra.{xors}
use Rattle.letters.proofs.Cases.{le_or_lt}
use Rattle.letters.proofs.Sums.{sum_same}
use Rattle.system.specs.System.{sequence}
use Rattle.system.proofs.System.{sequences}
use Rattle.tiles.specs.Tile.{Tile, run_of, read_before, TakenTo, WithinTile}
use Rattle.tiles.proofs.Runs.{before_same}
use Rattle.tiles.proofs.Taking.{taken_start, taken_more, taken_out_more}
use Rattle.tiles.proofs.Tile.{within_then}
use Rattle.tiles.proofs.Buffers.{changed_within, changed_only}
use Rattle.spans.specs.Steps.Spans.{RunPlaced, HasBegun}
use Rattle.earlier.specs.Steps.{OnlyRank, TakesOne, TakesAll}
use Rattle.earlier.specs.Taken.{TakesOut}

-- Before the first sequence nothing was taken out of a run,
pub takes_first : (n : ℕ) (t : ℕ → ℕ → ℕ) (done count b : ℕ) (xs : List ℕ) → TakesAll n t done count b 0 xs xs
takes_first n t done count b xs =
    record {
      only = record { same_length = refl; kept = λ i out. refl };
      taken = taken_start xors t done count (sequence 0 xs n) b (run_of 0 t done count (sequence 0 xs n) b) (λ p lp hp. refl);
    }

module _ {s n : ℕ} {t : ℕ → ℕ → ℕ} {done count below hi : ℕ} (tile : Tile s n t done count below hi) where
  -- the run of each rank of the tile lies inside its sequence
  pub placed_in : (b : ℕ) → below < b → b ≤ hi → RunPlaced s n t done count b
  placed_in b lb hb =
      record {
        some_rank = omega arith;
        few-ranks = omega (arith, tile.few);
        begun = tile.begun b lb hb;
        not_over = tile.not_over b lb hb;
      }

  -- every rank up to the last of the tile has begun
  pub begun_in : (a : ℕ) → 1 ≤ a → a ≤ hi → HasBegun s t done a
  begun_in a la ha =
      record {
        some_rank = la;
        few-ranks = omega (arith, tile.few);
        begun = ⊎_elim (λ h. omega (arith, tile.over a la h)) (λ h. tile.begun a h ha) (le_or_lt a below);
      }

  module _ {b : ℕ} (lb : below < b) (hb : b ≤ hi) where
    only_within : {xs ys : List ℕ} → OnlyRank n t done count b xs ys → WithinTile s n t done count below hi (sequence 0 xs n) (sequence 0 ys n)
    only_within {xs} {ys} only = changed_within 0 s n t done count below hi tile xs ys b lb hb only.kept

    -- of one sequence more
    pub takes_more :
        (c a : ℕ) → a ≡ c + 1 → a ≤ s → {xs ys zs : List ℕ} → TakesAll n t done count b c xs ys → TakesOne n t done count b a ys zs
        → TakesAll n t done count b a xs zs
    takes_more c a next ha {xs} {ys} {zs} all one =
        record {
          only =
              record {
                same_length = one.only.same_length ∙ all.only.same_length;
                kept = λ i out. one.only.kept i out ∙ all.only.kept i out;
              };
          taken =
              taken_more xors t done count (sequence 0 xs n) b s n below hi (sequence 0 ys n) (sequences 0 xs n) (sequences 0 ys n)
              (only_within all.only) c a next ha (run_of 0 t done count (sequence 0 ys n) b) (run_of 0 t done count (sequence 0 zs n) b)
              all.taken one.added;
        }

  -- out of one run more: what it reads is as it was, for it lies before the tile
  pub takes_out_more :
      (c b : ℕ) → below ≤ c → b ≡ c + 1 → b ≤ hi → {xs ys zs : List ℕ} → TakesOut s n t done count below hi xs c ys
      → TakesAll n t done count b hi ys zs → TakesOut s n t done count below hi xs b zs
  takes_out_more c b lc next hb {xs} {ys} {zs} out all =
      record {
        same_length = all.only.same_length ∙ out.same_length;
        within =
            within_then s n t done count below hi (sequence 0 xs n) (sequence 0 ys n) (sequence 0 zs n) out.within
            (only_within (omega arith) hb all.only);
        taken =
            taken_out_more xors t done count below hi (sequence 0 xs n) c b lc next hb (run_of 0 t done count (sequence 0 ys n))
            (run_of 0 t done count (sequence 0 zs n)) out.taken
            (changed_only 0 s n t done count below hi tile ys zs b (omega arith) hb all.only.kept) as_before;
      }
    where
      as_before : TakenTo xors t done count (sequence 0 xs n) b hi (run_of 0 t done count (sequence 0 zs n) b)
      as_before p lp hp =
          all.taken p lp hp
          ∙ ap₂ bit_xor (out.taken.rest b (omega arith) hb p lp hp)
          (sum_same xors hi (read_before 0 t done (sequence 0 ys n) b p) (read_before 0 t done (sequence 0 xs n) b p)
          (λ a la ha.
          before_same 0 s n t done count below hi (sequence 0 xs n) (sequence 0 ys n) (sequences 0 xs n) (sequences 0 ys n) out.within b p a
          la (omega (arith, tile.few))))
