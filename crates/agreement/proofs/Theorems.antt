-- Where at least k+2 nodes are present, exactly one of three things holds: all agree, one alone is odd, more than one is wrong. No second node could be named, and the file is the only one.
use mathlib.Core.Path.{◌≡◌, sym, subst, ◌∙◌}
use mathlib.Core.List.{List}
use mathlib.Core.Logic.{◌⊎◌, inl, inr, ⊎_elim}
use Prim.Native.Nat.{ℕ, zero, suc, ◌+◌, ◌≤◌, ◌<◌}
use native.Mathlib.Omega.{arith}
use lib.ListN.{length}
use Rattle.letters.specs.Algebra.{bytes}
use Rattle.letters.proofs.Cases.{le_or_lt, eq_or_ne}
use Rattle.group.specs.declared.Group.{Group}
use Rattle.matrix.specs.Pieces.{Chosen}
use Rattle.matrix.proofs.Files.{length_as_file}
use Rattle.matrix.proofs.Theorems.{exactly_one_file}
use Rattle.agreement.specs.Agreement.{letters_of, handed_by, Shared, SharedWithout, AllAgree, OddAlone, SeveralWrong}
use Rattle.agreement.specs.Steps.Trying.{kept_rank, kept_ids, collected, Tried, Compared}
use Rattle.agreement.proofs.Choices.{Choice, passing, never_passed, choice_without, choice_without_two, kept_chosen, two_files}
use Rattle.agreement.proofs.Comparing.{Comparison, compared_to}
use Rattle.agreement.proofs.Trying.{without_any, all_fit, all_but_one_fit, Failed, all_failed}

module _ (g : Group) (ids handed : List ℕ) (present : Chosen g (length ids) ids) (spare : g.k + 2 ≤ length ids) where
  -- ---- the file is the only one

  -- passing over b first and then a later rank, neither is there
  neither : (b c v : ℕ) → b < c → (kept_rank c (kept_rank b v) ≡ b → ⊥) × (kept_rank c (kept_rank b v) ≡ c → ⊥)
  neither b c v h = (
    λ e.
        ⊎_elim (λ l. omega (arith, (passing c (kept_rank b v)).moves l))
        (λ l. never_passed b v (sym ((passing c (kept_rank b v)).stays l) ∙ e))
        (le_or_lt c (kept_rank b v)),
    λ e. never_passed c (kept_rank b v) e,
  )

  -- a file that all share without one, and a file that all share without a later one, are the same
  two_without :
      (b c : ℕ) → b < c → (file other : List ℕ) → SharedWithout g ids handed b file → SharedWithout g ids handed c other → file ≡ other
  two_without b c h file other s s' =
      two_files g ids present (λ v. kept_rank c (kept_rank b v)) choice file other s.long s'.long
      (λ v lo hi.
      let r = kept_rank c (kept_rank b v) in
      s.gives r (choice.low v lo hi) (choice.high v lo hi) (neither b c v h).0
      ∙ sym (s'.gives r (choice.low v lo hi) (choice.high v lo hi) (neither b c v h).1))
    where
      choice : Choice g ids (λ v. kept_rank c (kept_rank b v))
      choice = choice_without_two g ids present b c spare

  -- the same without one and without the same one
  pub only_file_without : (b : ℕ) (file other : List ℕ) → SharedWithout g ids handed b file → SharedWithout g ids handed b other → file ≡ other
  only_file_without b file other s s' =
      two_files g ids present (kept_rank b) (choice_without g ids present b (omega arith)) file other s.long s'.long
      (λ v lo hi.
      let r = choice_without g ids present b (omega arith) in
      s.gives (kept_rank b v) (r.low v lo hi) (r.high v lo hi) (never_passed b v)
      ∙ sym (s'.gives (kept_rank b v) (r.low v lo hi) (r.high v lo hi) (never_passed b v)))

  pub only_file : (file other : List ℕ) → Shared g ids handed file → Shared g ids handed other → file ≡ other
  only_file file other s s' =
      only_file_without 0 file other (without_any g ids handed 0 file s) (without_any g ids handed 0 other s')

  -- ---- no second node could be named

  -- a file that all share without one and without another gives all
  shared_by_all :
      (b c : ℕ) → (b ≡ c → ⊥) → (file : List ℕ) → SharedWithout g ids handed b file → SharedWithout g ids handed c file → Shared g ids handed file
  shared_by_all b c ne file s s' =
      record {
        long = s.long;
        gives = λ v lo hi. ⊎_elim (λ e. s'.gives v lo hi (λ i. ne (sym e ∙ i))) (λ other. s.gives v lo hi other) (eq_or_ne v b);
      }

  -- not an earlier one and a later one
  not_two : (b c : ℕ) → b < c → OddAlone g ids handed b → OddAlone g ids handed c → ⊥
  not_two b c h o o' =
      let same = two_without b c h o.others.0 o'.others.0 o.others.1 o'.others.1 in
      o.not_all (
        o.others.0,
        shared_by_all b c (λ e. omega arith) o.others.0 o.others.1 (subst (SharedWithout g ids handed c) (sym same) o'.others.1),
      )

  pub no_second : (b c : ℕ) → OddAlone g ids handed b → OddAlone g ids handed c → b ≡ c
  no_second b c o o' =
      ⊎_elim (λ e. e)
      (λ ne. ⊎_elim (λ h. absurd (not_two b c (omega arith) o o')) (λ h. absurd (not_two c b h o' o)) (le_or_lt b c)) (eq_or_ne b c)

  -- ---- exactly one of the three holds

  -- not two of them, by what they say
  pub agree_not_odd : (b : ℕ) → AllAgree g ids handed → OddAlone g ids handed b → ⊥
  agree_not_odd b all odd = odd.not_all all

  pub agree_not_several : AllAgree g ids handed → SeveralWrong g ids handed → ⊥
  agree_not_several all several = several.not_all all

  pub odd_not_several : (b : ℕ) → OddAlone g ids handed b → SeveralWrong g ids handed → ⊥
  odd_not_several b odd several = several.not-one b odd

  -- one of them: found out by k+1 tries
  abbrev Settled : Type 0
  Settled = AllAgree g ids handed ⊎ ((b : ℕ) × OddAlone g ids handed b)

  enough : g.k + 1 ≤ length ids
  enough = omega (arith, spare)

  module _ (long : length handed ≡ letters_of g ids (length ids)) where
    -- the file of a try
    try : (b : ℕ) → (file : List ℕ) × Tried g ids handed b file
    unfolding collected
    try b =
        let w = exactly_one_file bytes g (kept_ids g ids (kept_rank b)) (kept_chosen g ids present (kept_rank b) (choice_without g ids present b enough))
        (collected g (kept_ids g ids (kept_rank b)) (λ v. handed_by g ids handed (kept_rank b v)))
        (length_as_file 0 g present.group _) in
        (w.0, record { long = w.1; reads = w.2 })

    -- it settles the question, or it fails
    outcome : (b : ℕ) → Settled ⊎ Failed g ids handed present enough b
    outcome b = go (compared_to g ids handed (try b).0 long (length ids) (omega arith))
      where
        judged :
            (w r p : ℕ) → Compared g ids handed (try b).0 (length ids) w r p
            → Compared g ids handed (try b).0 (length ids) w r p → Settled ⊎ Failed g ids handed present enough b
        judged w r p (Compared.nobody all) k =
            inl (inl ((try b).0, all_fit g ids handed present enough b (try b).0 0 0 (try b).1 k))
        judged w r p (Compared.one c q lo hi first rest) k =
            let o = all_but_one_fit g ids handed present enough b (try b).0 r p (try b).1 k in
            inl (inr (r, o.odd))
        judged w r p (Compared.several a e _ _ la h he wa we) k = inr (record { tried = (try b).0; rank = r; place = p; recovered = (try b).1; two = k })

        go : Comparison g ids handed (try b).0 (length ids) → Settled ⊎ Failed g ids handed present enough b
        go t = judged t.wrong t.rank t.place t.told t.told

    -- the first m tries
    tries : (m : ℕ) → Settled ⊎ ((b : ℕ) → 1 ≤ b → b ≤ m → Failed g ids handed present enough b)
    tries zero = inr (λ b lo hi. absurd (omega arith))
    tries (suc m) =
        ⊎_elim (λ settled. inl settled)
        (λ before.
        ⊎_elim (λ settled. inl settled)
        (λ failed.
        inr
        (λ b lo hi.
        ⊎_elim (λ e. subst (Failed g ids handed present enough) (sym e) failed) (λ ne. before b lo (omega arith)) (eq_or_ne b (suc m))))
        (outcome (suc m)))
        (tries m)

    pub one_of_three : Settled ⊎ SeveralWrong g ids handed
    one_of_three = ⊎_elim (λ settled. inl settled) (λ failed. inr (all_failed g ids handed present enough failed)) (tries (g.k + 1))
