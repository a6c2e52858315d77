-- `Fitting::put` meets its contract: as many bytes are laid as the head has.
use mathlib.Core.Path.{◌≡◌, sym, subst, ◌∙◌}
use mathlib.Core.List.{List}
use Prim.Native.Nat.{ℕ}
use Rattle.letters.specs.Laid.{Laid}
use Rattle.heads.proofs.bytes.Fitting.put.Goals as goal

laid_as : (before after : List ℕ) (f : ℕ → ℕ) (size whole : ℕ) → size ≡ whole → Laid before after 0 size f → Laid before after 0 whole f
laid_as before after f size whole e = subst (λ n. Laid before after 0 n f) e

pub returns-then-size-eq13 : goal.returns-then-size-eq13
returns-then-size-eq13 c =
    let m = c in
    laid_as _ _ _ _ _ (sym m.if-size-eq13.true ∙ m.head_size-size.ensures) c.put_bytes.ensures

pub returns-else-size-eq13 : goal.returns-else-size-eq13
returns-else-size-eq13 c = laid_as _ _ _ _ _ c.head_size-size.ensures c.put_bytes-else-size-eq13.ensures
