-- What comes of trying: a file that is recovered from k nodes and fits all of them, or all but one, settles the question; and where each of k+1 tries leaves two nodes that don't fit,
-- more than one is wrong.
use mathlib.Core.Path.{◌≡◌, ap, ◌∙◌}
use mathlib.Core.List.{List}
use mathlib.Core.Logic.{◌⊎◌, ⊎_elim}
use Prim.Native.Nat.{ℕ, ◌+◌, ◌≤◌}
use native.Mathlib.Omega.{arith}
use lib.ListN.{length}
use Rattle.letters.specs.Algebra.{bytes, xors}
use Rattle.letters.proofs.Cases.{le_or_lt, eq_or_ne}
use Rattle.group.specs.declared.Group.{Group}
use Rattle.sequences.specs.Lists.{ranked}
use Rattle.matrix.specs.Matrix.{packets}
use Rattle.matrix.specs.Pieces.{Chosen}
use Rattle.matrix.proofs.Theorems.{reading_once}
use Rattle.agreement.specs.Agreement.{handed_by, FirstWrong, Shared, SharedWithout, OddAlone, SeveralWrong}
use Rattle.agreement.specs.Steps.Trying.{kept_rank, kept_ids, Tried, Compared}
use Rattle.agreement.proofs.Choices.{Choice, passing, never_passed, choice_without, kept_id, kept_chosen, honest_collected}
use Rattle.agreement.proofs.FirstWrong.{wrong_differs}

-- a file that all share is one that all share without any one
pub without_any : (g : Group) (ids handed : List ℕ) (b : ℕ) (file : List ℕ) → Shared g ids handed file → SharedWithout g ids handed b file
without_any g ids handed b file s = record { long = s.long; gives = λ v lo hi ne. s.gives v lo hi }

module _ (g : Group) (ids handed : List ℕ) (present : Chosen g (length ids) ids) (enough : g.k + 1 ≤ length ids) where
  -- what is tried without rank b is the file that all share without rank c, if rank c isn't among those that it was recovered from
  pub tried_is_shared :
      (b c : ℕ) (tried file : List ℕ) → Tried g ids handed b tried → SharedWithout g ids handed c file
      → ((v : ℕ) → 1 ≤ v → v ≤ g.k → kept_rank b v ≡ c → ⊥) → tried ≡ file
  tried_is_shared b c tried file t s away =
      reading_once bytes g (kept_ids g ids (kept_rank b)) (kept_chosen g ids present (kept_rank b) choice) tried file t.long s.long
      (t.reads
      ∙ honest_collected g ids present (kept_rank b) choice file (λ v. handed_by g ids handed (kept_rank b v))
      (λ v lo hi.
      ap (packets xors g file) (kept_id g ids present (kept_rank b) choice v lo hi)
      ∙ s.gives (kept_rank b v) (choice.low v lo hi) (choice.high v lo hi) (away v lo hi)))
    where
      choice : Choice g ids (kept_rank b)
      choice = choice_without g ids present b enough

  -- of all that agree it is the file, whichever rank is left out
  pub tried_is_all : (b : ℕ) (tried file : List ℕ) → Tried g ids handed b tried → Shared g ids handed file → tried ≡ file
  tried_is_all b tried file t s =
      tried_is_shared b 0 tried file t (without_any g ids handed 0 file s)
      (λ v lo hi e. omega (arith, (passing b v).up))

  -- it fits all
  pub all_fit : (b : ℕ) (tried : List ℕ) (c p : ℕ) → Tried g ids handed b tried → Compared g ids handed tried (length ids) 0 c p → Shared g ids handed tried
  all_fit b tried c p t (Compared.nobody all) = record { long = t.long; gives = all }

  -- it fits all but one
  module _ (b : ℕ) (tried : List ℕ) (c p : ℕ) (t : Tried g ids handed b tried) where
    pub record OneWrong : Type 0 where
      pub odd : OddAlone g ids handed c
      pub without : SharedWithout g ids handed c tried
      pub place : FirstWrong (handed_by g ids handed c) (packets xors g tried (ranked ids c)) p

    pub all_but_one_fit : Compared g ids handed tried (length ids) 1 c p → OneWrong
    all_but_one_fit (Compared.one _ _ lo hi first rest) =
        let without : SharedWithout g ids handed c tried = record { long = t.long; gives = rest } in
        record {
          odd =
              record {
                low = lo;
                high = hi;
                not_all =
                    λ all.
                    wrong_differs (handed_by g ids handed c) (packets xors g tried (ranked ids c)) p first
                    (ap (λ file. packets xors g file (ranked ids c)) (tried_is_all b tried all.0 t all.1) ∙ all.1.gives c lo hi);
                others = (tried, without);
              };
          without = without;
          place = first;
        }

  -- two don't fit: then no file is shared by all without a rank that wasn't read
  pub two_fail :
      (b c : ℕ) (tried : List ℕ) (r p : ℕ) → Tried g ids handed b tried → Compared g ids handed tried (length ids) 2 r p
      → ((v : ℕ) → 1 ≤ v → v ≤ g.k → kept_rank b v ≡ c → ⊥) → (file : List ℕ) → SharedWithout g ids handed c file → ⊥
  two_fail b c tried r p t (Compared.several a e _ _ la h he wa we) away file s =
      let same = tried_is_shared b c tried file t s away in
      ⊎_elim (λ is. we (ap (λ f. packets xors g f (ranked ids e)) same ∙ s.gives e (omega arith) he (λ i. omega arith)))
      (λ ne. wa (ap (λ f. packets xors g f (ranked ids a)) same ∙ s.gives a la (omega arith) ne))
      (eq_or_ne a c)

  -- a try without rank b left two that don't fit
  pub record Failed (b : ℕ) : Type 0 where
    pub tried : List ℕ
    pub rank : ℕ
    pub place : ℕ
    pub recovered : Tried g ids handed b tried
    pub two : Compared g ids handed tried (length ids) 2 rank place

  -- all k+1 tries did
  pub all_failed : ((b : ℕ) → 1 ≤ b → b ≤ g.k + 1 → Failed b) → SeveralWrong g ids handed
  all_failed failed =
      record {
        not_all =
            λ all.
            none_without (g.k + 1) 0 (omega arith) (omega arith) (λ v lo hi e. omega (arith, (passing (g.k + 1) v).up)) all.0
            (without_any g ids handed 0 all.0 all.1);
        not-one =
            λ c odd.
            ⊎_elim
            (λ h. none_without c c odd.low h (λ v lo hi e. never_passed c v e) odd.others.0 odd.others.1)
            (λ h.
            none_without (g.k + 1) c (omega arith) (omega arith) (λ v lo hi e. omega (arith, (passing (g.k + 1) v).by_one)) odd.others.0
            odd.others.1)
            (le_or_lt c (g.k + 1));
      }
    where
      none_without :
          (b c : ℕ) → 1 ≤ b → b ≤ g.k + 1 → ((v : ℕ) → 1 ≤ v → v ≤ g.k → kept_rank b v ≡ c → ⊥) → (file : List ℕ)
          → SharedWithout g ids handed c file → ⊥
      none_without b c lo hi away file s =
          let f = failed b lo hi in
          two_fail b c f.tried f.rank f.place f.recovered f.two away file s
