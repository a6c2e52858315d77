-- Any k of the nodes that are present have at most one file between them.
use mathlib.Core.Path.{◌≡◌, refl, sym, ap, ◌∙◌}
use mathlib.Core.List.{List}
use mathlib.Core.Logic.{⊎_elim}
use Prim.Native.Nat.{ℕ, ◌+◌, ◌-◌, ◌≤◌, ◌<◌, min}
use native.Mathlib.Omega.{arith}
use lib.ListN.{length, get_or}
use borrow.Author.Tests.{lt-ltb, le-ltb}
use Rattle.letters.specs.Algebra.{bytes, xors}
use Rattle.letters.proofs.Cases.{le_or_lt}
use Rattle.group.specs.declared.Group.{Group}
use Rattle.group.specs.Ranges.{NodeOf}
use Rattle.lengths.specs.Lengths.{file_letters}
use Rattle.sequences.specs.Lists.{ranked}
use Rattle.sequences.proofs.Lists.{length_run, get_d_run}
use Rattle.matrix.specs.Matrix.{as_file, packets, Free}
use Rattle.matrix.specs.Pieces.{piece_in, piece_letter, piece, reading, Chosen}
use Rattle.matrix.proofs.Files.{length_as_file, as_file_at, is_as_file}
use Rattle.matrix.proofs.Theorems.{reading_once, piece_handed}
use Rattle.agreement.specs.Agreement.{letter_at}
use Rattle.agreement.specs.Steps.Trying.{kept_rank, kept_ids, collected}

-- k ranks, one after another
pub record Choice (g : Group) (ids : List ℕ) (rank : ℕ → ℕ) : Type 0 where
  pub low : (v : ℕ) → 1 ≤ v → v ≤ g.k → 1 ≤ rank v
  pub high : (v : ℕ) → 1 ≤ v → v ≤ g.k → rank v ≤ length ids
  pub rises : (v w : ℕ) → 1 ≤ v → v < w → w ≤ g.k → rank v < rank w

-- where one rank is passed over
pub kept_before : (b v : ℕ) → v < b → kept_rank b v ≡ v
unfolding kept_rank
kept_before b v h = simp (lt-ltb v b h) refl

pub kept_after : (b v : ℕ) → b ≤ v → kept_rank b v ≡ v + 1
unfolding kept_rank
kept_after b v h = simp (le-ltb v b h) refl

-- what that does to any rank: it goes up by one at most, and isn't the one that is passed over
pub record Passing (b v r : ℕ) : Type 0 where
  pub up : v ≤ r
  pub by_one : r ≤ v + 1
  pub stays : v < b → r ≡ v
  pub moves : b ≤ v → r ≡ v + 1

pub passing : (b v : ℕ) → Passing b v (kept_rank b v)
passing b v =
    ⊎_elim
    (λ h.
    let e = kept_after b v h in
    record { up = omega arith; by_one = omega arith; stays = λ l. absurd (omega arith); moves = λ l. e })
    (λ h.
    let e = kept_before b v h in
    record { up = omega arith; by_one = omega arith; stays = λ l. e; moves = λ l. absurd (omega arith) })
    (le_or_lt b v)

-- the rank that is passed over isn't there
pub never_passed : (b v : ℕ) → kept_rank b v ≡ b → ⊥
never_passed b v e = ⊎_elim (λ h. omega (arith, kept_after b v h)) (λ h. omega (arith, kept_before b v h)) (le_or_lt b v)

pub kept_rises : (b v w : ℕ) → v < w → kept_rank b v < kept_rank b w
kept_rises b v w h =
    ⊎_elim (λ l. omega (arith, kept_after b v l, (passing b w).moves (omega arith)))
    (λ l. omega (arith, kept_before b v l, (passing b w).up))
    (le_or_lt b v)

module _ (g : Group) (ids : List ℕ) (present : Chosen g (length ids) ids) where
  -- the first k+1 ranks but one
  pub choice_without : (b : ℕ) → g.k + 1 ≤ length ids → Choice g ids (kept_rank b)
  choice_without b enough =
      record {
        low = λ v lo hi. omega (arith, (passing b v).up);
        high = λ v lo hi. omega (arith, (passing b v).by_one);
        rises = λ v w lo h hi. kept_rises b v w h;
      }

  -- the first k+2 ranks but two
  pub choice_without_two : (b c : ℕ) → g.k + 2 ≤ length ids → Choice g ids (λ v. kept_rank c (kept_rank b v))
  choice_without_two b c enough =
      record {
        low = λ v lo hi. omega (arith, (passing b v).up, (passing c (kept_rank b v)).up);
        high = λ v lo hi. omega (arith, (passing b v).by_one, (passing c (kept_rank b v)).by_one);
        rises = λ v w lo h hi. kept_rises c (kept_rank b v) (kept_rank b w) (kept_rises b v w h);
      }

  module _ (rank : ℕ → ℕ) (choice : Choice g ids rank) where
    abbrev kept : List ℕ
    kept = kept_ids g ids rank

    pub length_kept : length kept ≡ g.k
    unfolding kept_ids
    length_kept = length_run g.k (λ v. ranked ids (rank v))

    pub kept_id : (v : ℕ) → 1 ≤ v → v ≤ g.k → ranked kept v ≡ ranked ids (rank v)
    unfolding kept_ids ranked
    kept_id v lo hi = get_d_run g.k (λ v. get_or ids (rank v - 1) 0) 0 (v - 1) (omega arith) ∙ ap (λ w. get_or ids (rank w - 1) 0) back
      where
        back : v - 1 + 1 ≡ v
        back = omega arith

    -- they may be read
    pub kept_chosen : Chosen g g.k kept
    kept_chosen =
        record {
          group = present.group;
          nodes =
              record {
                many = length_kept;
                falling =
                    record {
                      from_one = λ v lo hi. rw (kept_id v lo hi) (present.nodes.falling.from_one (rank v) (choice.low v lo hi) (choice.high v lo hi));
                      falls =
                          λ v w lo h hi.
                          rw (kept_id v lo (omega arith), kept_id w (omega arith) hi)
                          (present.nodes.falling.falls (rank v) (rank w) (choice.low v lo (omega arith)) (choice.rises v w lo h hi) (choice.high w (omega arith) hi));
                    };
                known = λ v lo hi. rw (kept_id v lo hi) (present.nodes.known (rank v) (choice.low v lo hi) (choice.high v lo hi));
              };
        }

    kept_node : (v : ℕ) → 1 ≤ v → v ≤ g.k → NodeOf g (ranked kept v)
    kept_node v lo hi =
        record { group = present.group; low = kept_chosen.nodes.falling.from_one v lo hi; high = kept_chosen.nodes.known v lo hi }

    free_entry : (v u : ℕ) → 1 ≤ v → v ≤ min u g.k → u ≤ g.d → Free g v u
    free_entry v u lv hv hu = record { group = present.group; row = lv; within = omega arith; upper = omega arith; column = hu }

    -- what is collected of nodes that hold a file's packets is what reading it gives
    pub honest_collected :
        (file : List ℕ) (held : ℕ → List ℕ) → ((v : ℕ) → 1 ≤ v → v ≤ g.k → packets xors g file (ranked kept v) ≡ held v)
        → collected g kept held ≡ reading xors g file kept
    unfolding collected reading piece
    honest_collected file held honest =
        is_as_file 0 g present.group (piece_letter xors g file kept) (as_file g f) (length_as_file 0 g present.group f)
        (λ u v p lu hu lv hv lp hp.
        as_file_at 0 g present.group f u v p lu hu lv hv lp hp
        ∙ ap (λ xs. letter_at (piece_in g (ranked kept v) v u xs) p) (sym (honest v lv (omega arith)))
        ∙ ap (λ xs. letter_at xs p) (piece_handed xors g file kept v u (kept_node v lv (omega arith)) (free_entry v u lv hv hu))
        ∙ at_place v u p lp hp)
      where
        f : ℕ → ℕ → ℕ → ℕ
        f v u p = letter_at (piece_in g (ranked kept v) v u (held v)) p

        back : (p : ℕ) → 1 ≤ p → p - 1 + 1 ≡ p
        back p h = omega arith

        at_place : (v u p : ℕ) → 1 ≤ p → p ≤ g.l → letter_at (piece xors g file kept v u) p ≡ piece_letter xors g file kept v u p
        at_place v u p lp hp =
            get_d_run g.l (piece_letter xors g file kept v u) 0 (p - 1) (omega arith) ∙ ap (piece_letter xors g file kept v u) (back p lp)

    -- two files that give those k nodes the same are one file
    pub two_files :
        (file other : List ℕ) → length file ≡ file_letters g → length other ≡ file_letters g
        → ((v : ℕ) → 1 ≤ v → v ≤ g.k → packets xors g file (ranked ids (rank v)) ≡ packets xors g other (ranked ids (rank v))) → file ≡ other
    two_files file other long long' same =
        reading_once bytes g kept kept_chosen file other long long'
        (sym (honest_collected file (λ v. packets xors g other (ranked kept v)) (λ v lo hi. rw (kept_id v lo hi) (same v lo hi)))
        ∙ honest_collected other (λ v. packets xors g other (ranked kept v)) (λ v lo hi. refl))
