-- From the highest byte down, each turn puts one byte more in front.
use Rattle.std.proofs.Common.{◌≡◌, ℕ, suc, List, ◌+◌, ◌-◌, ◌*◌, ◌^◌, ◌≤◌, ◌<◌, sym, ap₂, ◌∙◌, arith, get_or}
use Rattle.std.proofs.Math.Nat.{pow-succ', pow-le-pow_right}
use Rattle.records.specs.Records.{number_in}
use Rattle.records.proofs.NumberBytes.{number_more}
use Rattle.records.proofs.numbers.number_in.Goals as goal

-- at most four bytes
bound : (size i x : ℕ) → size ≤ 4 → 1 ≤ i → i ≤ size → x < 256 ^ (size - i) → x < 256 ^ 4
bound size i x few some le h = omega (arith, pow-le-pow_right {n = 256} (omega arith) {i = size - i} {j = 4} (omega arith))

-- one byte more
more :
    (share : List ℕ) (start size i x byte : ℕ) → 1 ≤ i → i ≤ size → x ≡ number_in (size - i) (start + i) share → byte ≡ get_or share (start + (i - 1)) 0
    → byte + 256 * x ≡ number_in (size - (i - 1)) (start + (i - 1)) share
more share start size i x byte some le e b =
    let here = number_more (size - (i - 1)) (start + (i - 1)) share (omega arith) in
    let s : size - (i - 1) - 1 ≡ size - i = omega arith in
    let a : start + (i - 1) + 1 ≡ start + i = omega arith in
    ap₂ (λ m n. m + 256 * n) b (e ∙ sym (ap₂ (λ m n. number_in m n share) s a)) ∙ sym here

wider : (size i x byte : ℕ) → 1 ≤ i → i ≤ size → x < 256 ^ (size - i) → byte < 256 → byte + 256 * x < 256 ^ (size - (i - 1))
wider size i x byte some le h b =
    let s : size - (i - 1) ≡ suc (size - i) = omega arith in
    rw s (omega (arith, pow-succ' 256 (size - i)))

pub overflow_mul-x : goal.overflow_mul-x
overflow_mul-x c = omega (arith, bound c.args.size c.loop-i.i c.loop-i.x (omega arith) (omega arith) (omega arith) c.loop-i.invariant.2)

pub overflow_add-x : goal.overflow_add-x
overflow_add-x c = omega (arith, bound c.args.size c.loop-i.i c.loop-i.x (omega arith) (omega arith) (omega arith) c.loop-i.invariant.2)

pub loop-i-preserved : goal.loop-i-preserved
loop-i-preserved c =
    let a = c.args in
    let l = c.loop-i in (
      omega arith,
      more a.share.now a.start a.size l.i l.x _ (omega arith) l.invariant.0 l.invariant.1 c.byte_at.ensures.0,
      wider a.size l.i l.x _ (omega arith) l.invariant.0 l.invariant.2 c.byte_at.ensures.1,
    )
