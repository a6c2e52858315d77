-- A byte of a number in as many bytes as it has room in is that byte of it in eight.
use Rattle.std.proofs.Common.{◌≡◌, ℕ, zero, suc, ◌<◌, refl, sym, ap, ◌∙◌, arith, w64, get_or}
use Rattle.std.specs.Int.{to_le_bytes}
use Rattle.records.specs.Records.{number}
use Rattle.records.proofs.numbers.byte_of.Goals as goal

byte_of_eight : (size x nth : ℕ) → nth < 4 → nth < size → get_or (number size x) nth 0 ≡ get_or (to_le_bytes w64 x) nth 0
byte_of_eight zero x nth few h = absurd (omega arith)
byte_of_eight (suc s) x zero few h = refl
byte_of_eight (suc zero) x (suc nth) few h = absurd (omega arith)
byte_of_eight (suc (suc s)) x (suc zero) few h = omega arith
byte_of_eight (suc (suc zero)) x (suc (suc nth)) few h = absurd (omega arith)
byte_of_eight (suc (suc (suc s))) x (suc (suc zero)) few h = omega arith
byte_of_eight (suc (suc (suc zero))) x (suc (suc (suc nth))) few h = absurd (omega arith)
byte_of_eight (suc (suc (suc (suc s)))) x (suc (suc (suc zero))) few h = omega arith
byte_of_eight (suc (suc (suc (suc s)))) x (suc (suc (suc (suc nth)))) few h = absurd (omega arith)

pub returns : goal.returns
returns c = λ size h. ap (λ bytes. get_or bytes c.args.nth 0) c.to_le_bytes.ensures ∙ sym (byte_of_eight size c.args.x c.args.nth c.requires h)
