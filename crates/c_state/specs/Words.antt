-- A state as nine numbers.
use Rattle.std.specs.Prelude.{List, [], ◌∷◌, ℕ, get_or}
use Rattle.arriving.specs.declared.Arriving.{Arriving}

-- the state that nine numbers are, and its numbers: so two arrays are one state only if all their numbers are the same
abbrev pub state_in : List ℕ → Arriving
state_in words =
    record {
      at = get_or words 0 0;
      wrong = get_or words 1 0;
      n = get_or words 2 0;
      k = get_or words 3 0;
      d = get_or words 4 0;
      node = get_or words 5 0;
      l = get_or words 6 0;
      batch = get_or words 7 0;
      kind = get_or words 8 0;
    }

abbrev pub nine : Arriving → List ℕ
nine s = s.at ∷ s.wrong ∷ s.n ∷ s.k ∷ s.d ∷ s.node ∷ s.l ∷ s.batch ∷ s.kind ∷ []
