-- `fitting` meets its contract: a buffer of another length is refused, and in one of the right length the letters copied are the share's.
use mathlib.Core.Path.{sym, ◌∙◌}
use Rattle.reading.proofs.Verdicts.{no_room, room, copied_read}
use Rattle.reading.proofs.fitting.Goals as goal

pub returns-then-packets-total : goal.returns-then-packets-total
returns-then-packets-total c =
    let s = c in
    no_room s.args.head s.args.share.now s.args.packets.now s.requires (λ e. c.if-packets-total.true (e ∙ sym c.total.ensures))

pub copy_letters-requires : goal.copy_letters-requires
copy_letters-requires c =
    let s = c in
    rw c.head_size.ensures (room s.args.head s.args.share.now s.args.packets.now s.requires (c.if-packets-total.false ∙ c.total.ensures))

pub returns : goal.returns
returns c =
    let s = c in
    copied_read s.args.head s.args.share.now s.args.packets.now s.requires _
    (c.if-packets-total.false ∙ c.total.ensures) (rw c.head_size.ensures at c.copy_letters.ensures)
