-- What blocks leave over of a run: twice as wide, they leave as much over or a block more.
use mathlib.Core.Path.{◌≡◌, refl, sym, ◌∙◌}
use Prim.Native.Nat.{ℕ, ◌+◌, ◌-◌, ◌*◌, ◌/◌, ◌%◌, ◌≤◌, ◌<◌}
use native.Mathlib.Nat.{add-zero, mod-le, mod-lt, mod-eq_of_lt, mod-eq-sub-mod, mod-mod_of_dvd, dvd-add, dvd_refl}
use native.Mathlib.Omega.{arith}
use Rattle.letters.specs.Steps.Rests.{widest_block, left_over}

-- what blocks leave over, they leave over of what those twice as wide leave over
halved : (n width : ℕ) → n % width ≡ n % (width + width) % width
halved n width = sym (mod-mod_of_dvd width n (dvd-add width (dvd_refl width) (dvd_refl width)))

pub no_block :
    (n width start : ℕ) → start ≡ left_over n width → n % (width + width) < width → start + 0 ≡ left_over n (width + width)
unfolding left_over
no_block n width start e h = add-zero start ∙ e ∙ halved n width ∙ mod-eq_of_lt h

pub one_block :
    (n width start : ℕ) → 0 < width → start ≡ left_over n width → width ≤ n % (width + width) → start + width ≡ left_over n (width + width)
unfolding left_over
one_block n width start some e h =
    rw (e ∙ halved n width ∙ mod-eq-sub-mod h ∙ mod-eq_of_lt (under (n % (width + width)) (mod-lt n (omega arith)) h)) (omega arith)
  where
    under : (rest : ℕ) → rest < width + width → width ≤ rest → rest - width < width
    under rest below over = omega arith

pub block_fits : (n width start : ℕ) → 0 < width → start ≡ left_over n width → width ≤ n % (width + width) → start + width ≤ n
unfolding left_over
block_fits n width start some e h = rw (one_block n width start some e h) (mod-le n (width + width))

-- what is left over is no more than there is
pub in_run : (n width i : ℕ) → i ≡ left_over n width → i ≤ n
unfolding left_over
in_run n width i e = rw e (mod-le n width)

-- the odd letters, as the code counts them
pub odd_letters : (n : ℕ) → n % 8 ≡ left_over n 8
unfolding left_over
odd_letters n = refl

-- what the widest blocks leave over, they leave over of itself
pub rest_in : (n i : ℕ) → i ≡ left_over n widest_block → i % widest_block ≡ n % widest_block
unfolding left_over
rest_in n i e = omega arith

-- the widest blocks and what they leave over are all of it
pub all_blocks : (n start : ℕ) → start ≡ left_over n widest_block → start + n / widest_block * widest_block ≡ n
unfolding left_over
all_blocks n start e = omega arith
