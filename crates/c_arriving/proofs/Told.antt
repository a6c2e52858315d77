-- How a state that took bytes is told to C.
use mathlib.Core.Path.{◌≡◌, sym, ap, subst}
use mathlib.Core.List.{List}
use Prim.Native.Nat.{ℕ, ◌+◌}
use lib.ListN.{length, set}
use Rattle.arriving.specs.declared.Arriving.{Arriving}
use Rattle.arriving.specs.States.{head_so_far, state_with}
use Rattle.arriving.specs.Steps.Reaching.{StepsOver}
use Rattle.arriving.proofs.PastHead.{all_steps}
use Rattle.arriving.specs.Calls.{Takes}
use Rattle.c_state.specs.Words.{state_in, nine}
use Rattle.c_state.proofs.Words.{words_back}
use Rattle.c_arriving.specs.Arrivals.{TakesWords}

-- one number put, and the others as they were
first_put : (words : List ℕ) → length words ≡ 9 → (x : ℕ) → set words 0 x ≡ nine (state_with x (state_in words).wrong (head_so_far (state_in words)))
first_put words e x = ap (λ ws. set ws 0 x) (sym (words_back words e))

module _ (words : List ℕ) (s : Arriving) (fits : length words ≡ 9) (is : s ≡ state_in words) where
  -- taking
  pub took : (bytes full : List ℕ) (r : Arriving) → Takes s bytes r → full ≡ nine r → TakesWords words bytes 0 full
  took bytes full r takes put = subst (TakesWords words bytes 0) (sym put) (TakesWords.taken fits r (subst (λ s. Takes s bytes r) is takes))

  -- a burst that is stepped over changes the first number alone
  pub took_first : (bytes : List ℕ) (q : ℕ) → StepsOver s bytes q → q ≡ length bytes → TakesWords words bytes 0 (set words 0 (s.at + q))
  took_first bytes q steps all =
      subst (λ s. StepsOver s bytes q → TakesWords words bytes 0 (set words 0 (s.at + q))) (sym is)
      (λ st. subst (TakesWords words bytes 0) (sym (first_put words fits _)) (TakesWords.taken fits _ (all_steps _ bytes q st all))) steps
