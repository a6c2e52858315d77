-- Every content of a buffer of s pieces comes from exactly one buffer of s sequences: that is the system's one solution, laid out.
use mathlib.Core.Path.{◌≡◌, refl, sym, ap, ◌∙◌}
use mathlib.Core.List.{List}
use mathlib.Core.Logic.{⊎_elim}
use Prim.Native.Nat.{ℕ, ◌+◌, ◌-◌, ◌*◌, ◌≤◌}
use lib.ListN.{length}
use Rattle.letters.specs.Algebra.{Adding, Letters}
use Rattle.letters.proofs.Places.{place_cases}
use Rattle.system.specs.System.{part, sequence, Sequences}
use Rattle.system.specs.Order.{Ordered}
use Rattle.system.proofs.OneSolution.{one_solution}
use Rattle.system.proofs.SomeSolution.{solution, solved, solves}
use Rattle.system.proofs.System as system
use Rattle.sequences.specs.Lists.{run, joined}
use Rattle.sequences.specs.Parts.{parts_of}
use Rattle.sequences.proofs.Sequences.{length_runs, runs_at, is_runs}

module _ {A : Type 0} (𝓐 : Adding A) (s n : ℕ) (t : ℕ → ℕ → ℕ) (xs : List A) where
  pub length_parts : length (parts_of 𝓐 s n t xs) ≡ s * n
  unfolding parts_of
  length_parts = length_runs 𝓐.none s n (part 𝓐 s t (sequence 𝓐.none xs n))

  pub parts_at :
      (b p : ℕ) → 1 ≤ b → b ≤ s → 1 ≤ p → p ≤ n
      → sequence 𝓐.none (parts_of 𝓐 s n t xs) n b p ≡ part 𝓐 s t (sequence 𝓐.none xs n) b p
  unfolding parts_of
  parts_at b p lb hb lp hp = runs_at 𝓐.none s n (part 𝓐 s t (sequence 𝓐.none xs n)) b p lb hb lp hp

  -- the parts are any list of their length that has their letters
  pub is_parts :
      (pieces : List A) → length pieces ≡ s * n
      → ((b p : ℕ) → 1 ≤ b → b ≤ s → 1 ≤ p → p ≤ n → part 𝓐 s t (sequence 𝓐.none xs n) b p ≡ sequence 𝓐.none pieces n b p)
      → parts_of 𝓐 s n t xs ≡ pieces
  unfolding parts_of
  is_parts pieces long has =
      sym
      (is_runs 𝓐.none s n (part 𝓐 s t (sequence 𝓐.none xs n)) pieces long
      (λ b p lb hb lp hp. sym (has b p lb hb lp hp)))

module _ {A : Type 0} (𝓛 : Letters A) (s n : ℕ) (t : ℕ → ℕ → ℕ) (ordered : Ordered s t) where
  -- what the equations give of one buffer they give of no other
  pub one_buffer :
      (xs ys : List A) → length xs ≡ s * n → length ys ≡ s * n → parts_of 𝓛.adding s n t xs ≡ parts_of 𝓛.adding s n t ys → xs ≡ ys
  one_buffer xs ys long long' same =
      is_runs 𝓛.adding.none s n (seq ys) xs long
      (λ a p la ha lp hp.
      one_solution 𝓛 s n t ordered (seq xs) (seq ys) (system.sequences 𝓛.adding.none xs n) (system.sequences 𝓛.adding.none ys n)
      (λ b q lb hb lq hq.
      sym (parts_at 𝓛.adding s n t xs b q lb hb lq hq)
      ∙ ap (λ zs. sequence 𝓛.adding.none zs n b q) same
      ∙ parts_at 𝓛.adding s n t ys b q lb hb lq hq)
      a p la ha)
      ∙ sym (is_runs 𝓛.adding.none s n (seq ys) ys long' (λ a p la ha lp hp. refl))
    where
      seq : List A → ℕ → ℕ → A
      seq zs = sequence 𝓛.adding.none zs n

  -- and any pieces whatever they give of some buffer
  module _ (pieces : List A) where
    -- the solution of the s equations
    found : ℕ → ℕ → A
    found = solution 𝓛 s n t ordered (sequence 𝓛.adding.none pieces n)

    pub source : List A
    source = joined s (λ a. run n (found a))

    pub length_source : length source ≡ s * n
    unfolding source
    length_source = length_runs 𝓛.adding.none s n found

    -- it stands in that buffer, also outside its places
    found_stands : (a p : ℕ) → 1 ≤ a → a ≤ s → sequence 𝓛.adding.none source n a p ≡ found a p
    unfolding source found
    found_stands a p la ha =
        ⊎_elim
        (λ w. runs_at 𝓛.adding.none s n found a p la ha w.0 w.1)
        (λ out.
        ⊎_elim
        (λ z. ap (sequence 𝓛.adding.none source n a) z ∙ stands.nothing_below a ∙ sym (ap (found a) z ∙ is.nothing_below a))
        (λ h. stands.nothing_above a p h ∙ sym (is.nothing_above a p h))
        out)
        (place_cases n p)
      where
        stands : Sequences 𝓛.adding.none n (sequence 𝓛.adding.none source n)
        stands = system.sequences 𝓛.adding.none source n

        is : Sequences 𝓛.adding.none n found
        is = solved 𝓛 s n t ordered (sequence 𝓛.adding.none pieces n)

    pub source_parts : length pieces ≡ s * n → parts_of 𝓛.adding s n t source ≡ pieces
    unfolding found
    source_parts long =
        is_parts 𝓛.adding s n t source pieces long
        (λ a p la ha lp hp.
        system.part_same 𝓛.adding s t t (sequence 𝓛.adding.none source n) found a p
        (λ b lb hb. found_stands b ((p + t a a) - t a b) lb hb)
        ∙ solves 𝓛 s n t ordered (sequence 𝓛.adding.none pieces n) a p la ha lp hp)

    -- so they are the parts of exactly one
    pub exactly_one_buffer :
        length pieces ≡ s * n
        → (xs : List A) × (length xs ≡ s * n) × (parts_of 𝓛.adding s n t xs ≡ pieces)
        × ((other : List A) → length other ≡ s * n → parts_of 𝓛.adding s n t other ≡ pieces → other ≡ xs)
    exactly_one_buffer long = (
      source,
      length_source,
      source_parts long,
      λ other l e. one_buffer other source l length_source (e ∙ sym (source_parts long)),
    )
