-- One rank more, compared: what the code notes is what is found.
use native.Mathlib.Omega.{arith}
use mathlib.Core.Path.{◌≡◌, refl, sym, ap, ap₂, subst, ◌∙◌}
use mathlib.Core.List.{List}
use mathlib.Core.Logic.{⊎_elim}
use Prim.Native.Nat.{ℕ, zero, suc, ◌+◌, ◌-◌, ◌≤◌, ◌<◌}
use lib.ListN.{length, get_or, take, drop, length-drop}
use lib.Seq.{ext_get_or, length-take-le}
use borrow.Author.Tests.{le-leb, lt-leb, ne_eqb}
use Rattle.letters.specs.Algebra.{xors}
use Rattle.letters.proofs.Cases.{le_or_lt}
use Rattle.group.specs.declared.Group.{Group}
use Rattle.lengths.specs.Lengths.{node_letters}
use Rattle.sequences.specs.Lists.{ranked}
use Rattle.matrix.specs.Matrix.{packets}
use Rattle.matrix.proofs.Product.{length_packets}
use Rattle.matching.specs.Same.{SameFor}
use Rattle.agreement.specs.Agreement.{letters_of, handed_by, FirstWrong}
use Rattle.agreement.specs.Steps.Trying.{Compared}
use Rattle.agreement.proofs.Handed.{letters_more, letters_rise, length_handed}
use Rattle.agreement.proofs.Comparing.{next_fits, first_wrong, another_wrong, still_several}
use Rattle.comparing_nodes.specs.declared.Found.{Found}
use Rattle.present.specs.Steps.Places.{Present, StartsAt}
use Rattle.comparing_nodes.specs.declared.Found.TheVariants.{Nobody, One, Several}
use Rattle.comparing_nodes.specs.Steps.Noting.{noted, wrong_nodes, wrong_rank, wrong_place}

-- all letters are right, or there is a first wrong one
module _ (held right : List ℕ) (m : ℕ) (same : SameFor held (λ q. get_or right q 0) m) (long : length held ≡ length right) where
  pub all_right : length held ≤ m → right ≡ held
  all_right h = sym (ext_get_or 0 held right long (λ q l. same.to.same q (omega arith) (omega arith)))

  pub wrong_after : m < length held → FirstWrong held right (m + 1)
  wrong_after h =
      record {
        from_one = omega arith;
        within = omega arith;
        before = λ q lo hi. same.to.same (q - 1) (omega arith) (omega arith);
        wrong = λ e. same.ends h (ap (λ i. get_or held i 0) back ∙ e ∙ ap (λ i. get_or right i 0) (sym back));
      }
    where
      back : m ≡ m + 1 - 1
      back = omega arith

-- what is noted of a rank
module _ (found : Found) (rank right count : ℕ) where
  pub noted_right : count ≤ right → noted found rank right count ≡ found
  unfolding noted
  noted_right h = simp (le-leb count right h) refl

  pub noted_first : right < count → wrong_nodes found ≡ 0 → noted found rank right count ≡ One (record { rank = rank; place = right + 1 })
  unfolding noted
  noted_first h e = simp (lt-leb count right h, e) refl

  pub noted_more : right < count → (wrong_nodes found ≡ 0 → ⊥) → noted found rank right count ≡ Several
  unfolding noted
  noted_more h ne = simp (lt-leb count right h, ne_eqb (wrong_nodes found) 0 ne) refl

-- where more than one is wrong, nothing is said of the first
first_untold : (g : Group) (ids handed file : List ℕ) (m r p : ℕ) → Compared g ids handed file m 2 r p → Compared g ids handed file m 2 0 0
first_untold g ids handed file m r p (Compared.several a b _ _ la h hb wa wb) = Compared.several a b 0 0 la h hb wa wb

-- where the letters of the next rank stand
module _ (g : Group) (ids handed starts : List ℕ) (here : Present g ids handed) (s : StartsAt g ids starts) (v : ℕ) (h : v < length ids) where
  pub next_end : get_or starts (v + 1) 0 ≡ get_or starts v 0 + node_letters g (get_or ids v 0)
  unfolding ranked
  next_end =
      s.before (v + 1) (omega arith)
      ∙ letters_more g ids v
      ∙ ap (λ m. m + node_letters g (get_or ids (v + 1 - 1) 0)) (sym (s.before v (omega arith)))
      ∙ ap (λ i. get_or starts v 0 + node_letters g (get_or ids i 0)) back
    where
      back : v + 1 - 1 ≡ v
      back = omega arith

  pub next_inside : get_or starts (v + 1) 0 ≤ length handed
  next_inside = omega (arith, s.before (v + 1) (omega arith), here.long, letters_rise g ids (v + 1) (length ids) (omega arith))

  pub next_long : length (take (get_or starts (v + 1) 0 - get_or starts v 0) (drop (get_or starts v 0) handed)) ≡ node_letters g (get_or ids v 0)
  next_long =
      length-take-le (get_or starts (v + 1) 0 - get_or starts v 0) (drop (get_or starts v 0) handed) (rw length-drop (omega (arith, next_inside)))
      ∙ (let own : get_or starts (v + 1) 0 - get_or starts v 0 ≡ node_letters g (get_or ids v 0) = omega (arith, next_end) in own)

  pub next_handed : take (get_or starts (v + 1) 0 - get_or starts v 0) (drop (get_or starts v 0) handed) ≡ handed_by g ids handed (v + 1)
  unfolding handed_by ranked
  next_handed = ap₂ (λ n a. take n (drop a handed)) size (s.before v (omega arith) ∙ ap (letters_of g ids) forth)
    where
      forth : v ≡ v + 1 - 1
      forth = omega arith

      cancel : (a b : ℕ) → a + b - a ≡ b
      cancel a b = omega arith

      size : get_or starts (v + 1) 0 - get_or starts v 0 ≡ node_letters g (get_or ids (v + 1 - 1) 0)
      size = ap (λ m. m - get_or starts v 0) next_end ∙ cancel (get_or starts v 0) (node_letters g (get_or ids v 0)) ∙ ap (λ i. node_letters g (get_or ids i 0)) forth

  node_of_next : get_or ids v 0 ≡ ranked ids (v + 1)
  unfolding ranked
  node_of_next = ap (λ i. get_or ids i 0) forth
    where
      forth : v ≡ v + 1 - 1
      forth = omega arith

  -- what the comparison of the next rank makes of what was found
  module _ (file : List ℕ) (found : Found) (few : wrong_nodes found < 2) (before : Compared g ids handed file v (wrong_nodes found) (wrong_rank found) (wrong_place found))
      (right : ℕ)
      (same : SameFor (take (get_or starts (v + 1) 0 - get_or starts v 0) (drop (get_or starts v 0) handed)) (λ q. get_or (packets xors g file (get_or ids v 0)) q 0) right) where
    abbrev held : List ℕ
    held = handed_by g ids handed (v + 1)

    abbrev product : List ℕ
    product = packets xors g file (ranked ids (v + 1))

    compared_here : SameFor held (λ q. get_or product q 0) right
    compared_here =
        subst (λ i. SameFor held (λ q. get_or (packets xors g file i) q 0) right) node_of_next
        (subst (λ xs. SameFor xs (λ q. get_or (packets xors g file (get_or ids v 0)) q 0) right) next_handed same)

    long : length held ≡ node_letters g (ranked ids (v + 1))
    long = length_handed g ids handed here.long (v + 1) (omega arith) (omega arith)

    alike : length held ≡ length product
    alike = long ∙ sym (length_packets xors g file (ranked ids (v + 1)))

    abbrev count : ℕ
    count = get_or starts (v + 1) 0 - get_or starts v 0

    count_is : count ≡ length held
    count_is = omega (arith, next_end, long, ap (node_letters g) node_of_next)

    pub right_within : right ≤ count
    right_within = omega (arith, compared_here.to.within, count_is)

    abbrev Next : Found → Type 0
    Next r = (wrong_nodes r ≤ 2) × Compared g ids handed file (v + 1) (wrong_nodes r) (wrong_rank r) (wrong_place r)

    some_wrong : (w : ℕ) → wrong_nodes found ≡ w → right < count → Next (noted found (v + 1) right count)
    some_wrong zero e h =
        subst Next (sym (noted_first found (v + 1) right count h e)) (
          omega arith,
          first_wrong g ids handed file v (right + 1) (wrong_rank found) (wrong_place found)
              (subst (λ w. Compared g ids handed file v w (wrong_rank found) (wrong_place found)) e before) (wrong_after held product right compared_here alike (omega (arith, count_is))),
        )
    some_wrong (suc zero) e h =
        subst Next (sym (noted_more found (v + 1) right count h (λ z. omega arith))) (
          omega arith,
          first_untold g ids handed file (v + 1) _ _ (another_wrong g ids handed file v (right + 1) (wrong_rank found) (wrong_place found)
              (subst (λ w. Compared g ids handed file v w (wrong_rank found) (wrong_place found)) e before) (wrong_after held product right compared_here alike (omega (arith, count_is)))),
        )
    some_wrong (suc (suc w)) e h = absurd (omega arith)

    pub next_noted : Next (noted found (v + 1) right count)
    next_noted =
        ⊎_elim
        (λ h.
        subst Next (sym (noted_right found (v + 1) right count h)) (
          omega arith,
          next_fits g ids handed file v (wrong_nodes found) (wrong_rank found) (wrong_place found) before (all_right held product right compared_here alike (omega (arith, count_is))),
        ))
        (λ h. some_wrong (wrong_nodes found) refl h)
        (le_or_lt count right)

-- two are enough: whatever comes behind, more than one is wrong
pub two_suffice :
    (g : Group) (ids handed file : List ℕ) (m n w r p : ℕ) → 2 ≤ w → w ≤ 2 → m ≤ n → Compared g ids handed file m w r p → Compared g ids handed file n w r p
two_suffice g ids handed file m n w r p more few further c =
    let two : w ≡ 2 = omega arith in
    subst (λ x. Compared g ids handed file n x r p) (sym two)
    (still_several g ids handed file m n r p further (subst (λ x. Compared g ids handed file m x r p) two c))

-- all ranks
pub all_compared :
    (g : Group) (ids handed file : List ℕ) (m n w r p : ℕ) → m ≡ n → Compared g ids handed file m w r p → Compared g ids handed file n w r p
all_compared g ids handed file m n w r p e c = subst (λ x. Compared g ids handed file x w r p) e c

-- where it isn't several, it is less than two
pub few_wrong : (found : Found) → (found ≡ Several → ⊥) → wrong_nodes found < 2
few_wrong Nobody ne = omega arith
few_wrong (One w) ne = omega arith
few_wrong Several ne = absurd (ne refl)
