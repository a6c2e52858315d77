-- Lists of letters by place, and lists one after another.
use Rattle.std.specs.Prelude.{List, [], ◌∷◌, ◌++◌, ℕ, zero, suc, ◌-◌, get_or}

module _ {A : Type 0} where
  -- the run f 1, f 2, .., f n
  unfoldable pub run : ℕ → (ℕ → A) → List A
  run zero f = []
  run (suc n) f = run n f ++ (f (suc n) ∷ [])

  -- the lists F 1, F 2, .., F n one after another
  unfoldable pub joined : ℕ → (ℕ → List A) → List A
  joined zero F = []
  joined (suc n) F = joined n F ++ F (suc n)

-- the id of rank v, counted from 1
unfoldable pub ranked : List ℕ → ℕ → ℕ
ranked ids v = get_or ids (v - 1) 0
