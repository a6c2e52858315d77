-- Two arrays are one state only if all their numbers are the same: the state's numbers are the array's.
use mathlib.Core.Path.{◌≡◌, refl, sym, ap, ◌∙◌}
use mathlib.Core.List.{List}
use Prim.Native.Nat.{ℕ, zero, suc, ◌<◌}
use native.Mathlib.Omega.{arith}
use lib.ListN.{length, get_or}
use lib.Seq.{ext_get_or}
use Rattle.c_state.specs.Words.{state_in, nine}

pub words_back : (words : List ℕ) → length words ≡ 9 → nine (state_in words) ≡ words
words_back words e = ext_get_or 0 (nine (state_in words)) words (sym e) each
  where
    each : (i : ℕ) → i < 9 → get_or (nine (state_in words)) i 0 ≡ get_or words i 0
    each zero h = refl
    each (suc zero) h = refl
    each (suc (suc zero)) h = refl
    each (suc (suc (suc zero))) h = refl
    each (suc (suc (suc (suc zero)))) h = refl
    each (suc (suc (suc (suc (suc zero))))) h = refl
    each (suc (suc (suc (suc (suc (suc zero)))))) h = refl
    each (suc (suc (suc (suc (suc (suc (suc zero))))))) h = refl
    each (suc (suc (suc (suc (suc (suc (suc (suc zero)))))))) h = refl
    each (suc (suc (suc (suc (suc (suc (suc (suc (suc i))))))))) h = absurd (omega arith)

pub one_array : (words others : List ℕ) → length words ≡ 9 → length others ≡ 9 → state_in words ≡ state_in others → words ≡ others
one_array words others e f same = sym (words_back words e) ∙ ap nine same ∙ words_back others f
