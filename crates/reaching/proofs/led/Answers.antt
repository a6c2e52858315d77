-- `reaching::led` meets its contract: the tests are the definition's own.
use mathlib.Core.Path.{◌≡◌, sym, ap, ◌∙◌}
use mathlib.Core.Logic.{inl, inr, ⊎_elim}
use Prim.Native.Nat.{ℕ}
use native.Mathlib.Omega.{arith}
use Rattle.layout.proofs.Judgments.{not_both}
use Rattle.heads.specs.declared.Head.{Head}
use Rattle.heads.specs.Heads.{heads}
use Rattle.heads.proofs.HeadLaws.{total_small}
use Rattle.heads.proofs.Answers.{affirmed, refuted}
use Rattle.reaching.specs.Numbers.{number_at}
use Rattle.reaching.proofs.led.Goals as goal

-- the number of a place, by a T that is the head's
is_total : (h : Head) (T at n : ℕ) → T ≡ heads.total h → n ≡ number_at h.kind T at → n ≡ number_at h.kind (heads.total h) at
is_total h T at n e f = f ∙ ap (λ t. number_at h.kind t at) e

pub returns-then-not-head_at : goal.returns-then-not-head_at
returns-then-not-head_at c = refuted (λ w. not_both _ (c.head_at.ensures.1 w.numbers) c.if-not-head_at.true)

pub returns-then-wrong-eq0 : goal.returns-then-wrong-eq0
returns-then-wrong-eq0 c = affirmed (record { numbers = c.head_at.ensures.0 c.if-not-head_at.false; number = inl c.if-wrong-eq0.true; byte = λ some. absurd (some c.if-wrong-eq0.true) })

pub number_at-requires : goal.number_at-requires
number_at-requires c = omega (arith, total_small c.args.head)

pub returns-then-wrong-number_at : goal.returns-then-wrong-number_at
returns-then-wrong-number_at c = refuted (λ w. ⊎_elim c.if-wrong-eq0.false (λ number. c.if-wrong-number_at.true (number ∙ sym (is_total c.args.head _ _ _ c.requires c.number_at.ensures))) w.number)

pub invariant_of-can_be_wrong : goal.invariant_of-can_be_wrong
invariant_of-can_be_wrong c = record { numbers = c.head_at.ensures.0 c.if-not-head_at.false }

pub returns : goal.returns
returns c =
    let some = c.if-wrong-eq0.false in (
      λ e.
          record {
            numbers = c.head_at.ensures.0 c.if-not-head_at.false;
            number = inr (c.if-wrong-number_at.false ∙ is_total c.args.head _ _ _ c.requires c.number_at.ensures);
            byte = λ n. c.can_be_wrong.ensures.0 e;
          },
      λ w. c.can_be_wrong.ensures.1 (w.byte some),
    )
