-- `known::file` meets its contract: k is at most 16.
use mathlib.Core.Path.{refl}
use native.Mathlib.Omega.{arith}
use Rattle.preview_numbers.specs.Previews.{preview_file}
use Rattle.preview_numbers.proofs.Sizes.{preview_file_at_most}
use Rattle.preview_numbers.proofs.known.file.Goals as goal

pub overflow_mul-result : goal.overflow_mul-result
unfolding preview_file
overflow_mul-result c =
    let s = c in omega (arith, preview_file_at_most s.args.g s.requires)

pub returns : goal.returns
unfolding preview_file
returns c = refl
