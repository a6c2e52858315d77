-- Text that is put after text: what stands before it and after it stays.
use mathlib.Core.Path.{◌≡◌, ap, sym, ◌∙◌}
use mathlib.Core.List.{List, ◌++◌, append_assoc}
use Prim.Native.Nat.{ℕ, ◌+◌}
use native.Mathlib.Omega.{arith}
use lib.ListN.{length, take, drop, length-append}
use lib.Seq.{length-take-le, take_at, drop_at, drop-drop}
use Rattle.text.specs.Text.{Put}

-- one text after another is both
module _ {a b c x y : List ℕ} {at r s : ℕ} where
  pub then_put : Put a at x r b → Put b r y s c → Put a at (x ++ y) s c
  then_put p q =
      let e : length (take at a ++ x) ≡ r = length-append (take at a) x ∙ ap (λ n. n + length x) (length-take-le at a p.room) ∙ sym p.count in
      let b' : b ≡ (take at a ++ x) ++ drop (at + length x) a = p.holds ∙ sym (append_assoc (take at a) x (drop (at + length x) a)) in
      let front : take r b ≡ take at a ++ x = ap (take r) b' ∙ take_at (take at a ++ x) (drop (at + length x) a) r e in
      let back : drop r b ≡ drop (at + length x) a = ap (drop r) b' ∙ drop_at (take at a ++ x) (drop (at + length x) a) r e in
      let sum : at + length x + length y ≡ at + length (x ++ y) = simp length-append (omega arith) in
      let rest : drop (r + length y) b ≡ drop (at + length (x ++ y)) a =
      sym (drop-drop (length y) r b) ∙ ap (drop (length y)) back ∙ drop-drop (length y) (at + length x) a ∙ ap (λ n. drop n a) sum in
      record {
        room = p.room;
        count = simp length-append (omega (arith, p.count, q.count));
        holds = q.holds ∙ simp (front, rest, append_assoc);
      }
