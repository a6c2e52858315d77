-- How a run goes in, block by block, and what is left of it.
use Rattle.std.specs.Prelude.{ℕ, ◌%◌}

-- the letters of the widest block: sixteen eights
abbrev pub widest_block : ℕ
widest_block = 128

-- how many of n letters are left over when they go in blocks of so many
unfoldable pub left_over : ℕ → ℕ → ℕ
left_over n width = n % width
