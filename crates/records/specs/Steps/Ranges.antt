-- Which bytes a number may have that is one of lo..hi, least byte first: after its lowest byte, what is left of it is in a range again.
use Rattle.std.specs.Prelude.{Bool, List, [], ◌∷◌, ℕ, zero, suc, ◌+◌, ◌-◌, ◌/◌, ◌%◌, leb}
use Rattle.letters.specs.Places.{both}

-- the least and the most that is left of such a number after this lowest byte
abbrev pub least_left : ℕ → ℕ → ℕ
least_left lo byte = ((lo + 255) - byte) / 256

abbrev pub most_left : ℕ → ℕ → ℕ
most_left hi byte = (hi - byte) / 256

-- some number of lo..hi has this lowest byte
unfoldable pub low_stands : ℕ → ℕ → ℕ → Bool
low_stands lo hi byte = both (leb byte hi) (leb (least_left lo byte) (most_left hi byte))

-- the test of each of the bytes of x, of which there are so many, after those before it
unfoldable pub range_tests : ℕ → ℕ → ℕ → ℕ → List Bool
range_tests zero lo hi x = []
range_tests (suc size) lo hi x =
    low_stands lo hi (x % 256) ∷ range_tests size (least_left lo (x % 256)) (most_left hi (x % 256)) (x / 256)
