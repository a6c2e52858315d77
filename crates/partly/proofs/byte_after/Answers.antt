-- `partly::byte_after` meets its contract: the first bytes are the head's own, and those that came stand after them.
use mathlib.Core.Path.{sym, ◌∙◌}
use native.Mathlib.Omega.{arith}
use lib.ListN.{get_or-eq_default}
use Rattle.heads.proofs.FirstBytes.{first_at, later_at}
use Rattle.partly.proofs.byte_after.Goals as goal

pub returns-then-offset-at : goal.returns-then-offset-at
returns-then-offset-at c =
    let s = c in c.byte.ensures ∙ sym (first_at s.args.of.head s.args.at s.requires _ _ c.if-offset-at.true)

pub returns-then-i-bytes : goal.returns-then-i-bytes
returns-then-i-bytes c =
    let s = c in sym (later_at s.args.of.head s.args.at s.requires _ _ c.if-offset-at.false)

pub returns : goal.returns
returns c =
    let s = c in sym (later_at s.args.of.head s.args.at s.requires _ _ c.if-offset-at.false ∙ get_or-eq_default s.args.bytes.now 0 c.if-i-bytes.false)
