-- A map of letters that takes sums to sums goes through runs, lists one after another, sequences, sums of moved sequences and the system's parts.
use mathlib.Core.Path.{◌≡◌, refl, ap, ◌∙◌}
use mathlib.Core.List.{List, [], ◌∷◌, ◌++◌, map}
use Prim.Native.Nat.{ℕ, zero, suc, ◌+◌, ◌-◌, ◌*◌}
use Rattle.letters.specs.Algebra.{Adding}
use Rattle.letters.specs.Lanes.{Carries}
use Rattle.letters.proofs.Carried.{sum_carried, letter_carried}
use Rattle.letters.proofs.Sums.{sum_same}
use Rattle.system.specs.System.{part, sequence}
use Rattle.sequences.specs.Lists.{run, joined}
use Rattle.sequences.specs.Moved.{moved}
use Rattle.sequences.specs.Parts.{parts_of}
use Rattle.sequences.proofs.Lists.{run_same, joined_same}

module _ {A B : Type 0} (h : A → B) where
  map_append : (xs ys : List A) → map h (xs ++ ys) ≡ map h xs ++ map h ys
  map_append [] ys = refl
  map_append (x ∷ xs) ys = ap (λ l. h x ∷ l) (map_append xs ys)

  pub run_carried : (n : ℕ) (f : ℕ → A) → map h (run n f) ≡ run n (λ p. h (f p))
  unfolding run
  run_carried zero f = refl
  run_carried (suc n) f = map_append (run n f) (f (suc n) ∷ []) ∙ ap (λ l. l ++ (h (f (suc n)) ∷ [])) (run_carried n f)

  pub joined_carried : (n : ℕ) (F : ℕ → List A) → map h (joined n F) ≡ joined n (λ j. map h (F j))
  unfolding joined
  joined_carried zero F = refl
  joined_carried (suc n) F = map_append (joined n F) (F (suc n)) ∙ ap (λ l. l ++ map h (F (suc n))) (joined_carried n F)

  -- lists that are the map of lists
  pub lists_carried : (n : ℕ) (F : ℕ → List A) (F' : ℕ → List B) → ((j : ℕ) → map h (F j) ≡ F' j) → map h (joined n F) ≡ joined n F'
  lists_carried n F F' e = joined_carried n F ∙ joined_same n (λ j. map h (F j)) F' (λ j lo hi. e j)

module _ {A B : Type 0} (𝓐 : Adding A) (𝓑 : Adding B) (h : A → B) (c : Carries 𝓐 𝓑 h) where
  -- runs that have the map's letters are the map of runs
  pub runs_carried : (n : ℕ) (f : ℕ → A) (f' : ℕ → B) → ((p : ℕ) → h (f p) ≡ f' p) → map h (run n f) ≡ run n f'
  runs_carried n f f' e = run_carried h n f ∙ run_same 𝓑.none n (λ p. h (f p)) f' (λ p lo hi. e p)

  pub sequence_carried :
      (xs : List A) (n a p : ℕ) → h (sequence 𝓐.none xs n a p) ≡ sequence 𝓑.none (map h xs) n a p
  unfolding sequence
  sequence_carried xs n a p = letter_carried 𝓐 𝓑 h c xs ((a - 1) * n) n p

  module _ (s : ℕ) (x : ℕ → ℕ → A) (y : ℕ → ℕ → B) (same : (a p : ℕ) → h (x a p) ≡ y a p) where
    pub moved_carried : (shift : ℕ → ℕ) (p : ℕ) → h (moved 𝓐 s shift x p) ≡ moved 𝓑 s shift y p
    unfolding moved
    moved_carried shift p =
        sum_carried 𝓐 𝓑 h c s (λ u. x u (p - shift u))
        ∙ sum_same 𝓑 s (λ u. h (x u (p - shift u))) (λ u. y u (p - shift u)) (λ u lo hi. same u (p - shift u))

    pub part_carried : (t : ℕ → ℕ → ℕ) (b p : ℕ) → h (part 𝓐 s t x b p) ≡ part 𝓑 s t y b p
    unfolding part
    part_carried t b p =
        sum_carried 𝓐 𝓑 h c s (λ a. x a ((p + t b b) - t b a))
        ∙ sum_same 𝓑 s (λ a. h (x a ((p + t b b) - t b a))) (λ a. y a ((p + t b b) - t b a)) (λ a lo hi. same a ((p + t b b) - t b a))

  pub parts_carried :
      (s n : ℕ) (t : ℕ → ℕ → ℕ) (xs : List A) → map h (parts_of 𝓐 s n t xs) ≡ parts_of 𝓑 s n t (map h xs)
  unfolding parts_of
  parts_carried s n t xs =
      lists_carried h s (λ b. run n (part 𝓐 s t (sequence 𝓐.none xs n) b)) (λ b. run n (part 𝓑 s t (sequence 𝓑.none (map h xs) n) b))
      (λ b.
      runs_carried n (part 𝓐 s t (sequence 𝓐.none xs n) b) (part 𝓑 s t (sequence 𝓑.none (map h xs) n) b)
      (λ p.
      part_carried s (sequence 𝓐.none xs n) (sequence 𝓑.none (map h xs) n) (λ a q. sequence_carried xs n a q) t b p))
