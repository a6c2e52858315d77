-- Every length, by name.
use Rattle.std.specs.Prelude.{ℕ, ◌+◌, ◌-◌, ◌*◌, ◌/◌}
use Rattle.letters.specs.Algebra.{counts, sum}
use Rattle.shifts.specs.Rule.{t}
use Rattle.group.specs.declared.Group.{Group}

-- B, the sequences of a file: kd - k(k-1)/2
unfoldable pub sequences : Group → ℕ
sequences g = g.k * g.d - g.k * (g.k - 1) / 2

-- the letters of a file: B*L
unfoldable pub file_letters : Group → ℕ
unfolding sequences
file_letters g = sequences g * g.l

-- the letters of packet j of node i: L + t(i,d)
unfoldable pub packet_length : Group → ℕ → ℕ → ℕ
packet_length g i j = g.l + t i g.d

-- the index at which packet j of node i starts: its packets stand one after another, so it starts after those before it
unfoldable pub packet_start : Group → ℕ → ℕ → ℕ
unfolding sum packet_length
packet_start g i j = sum counts (j - 1) (packet_length g i)

-- T, the letters that node i holds: d(L + t(i,d))
unfoldable pub node_letters : Group → ℕ → ℕ
node_letters g i = g.d * (g.l + t i g.d)

-- L', the letters of a repair piece for node f: L + t(f,d)
unfoldable pub repair_letters : Group → ℕ → ℕ
repair_letters g f = g.l + t f g.d

-- the letters of the buffer in which node f is repaired: d pieces of L'
unfoldable pub repair_buffer : Group → ℕ → ℕ
unfolding repair_letters
repair_buffer g f = g.d * repair_letters g f
