-- `message::judge` meets its contract: no octet, or 80H or 82H and what follows.
-- Assumes nothing.
use Rattle.std.proofs.Common.{sym, ap, ◌∙◌, arith, Err}
use Rattle.message.proofs.Opening.{none_yet, kind_spoils}
use Rattle.message.proofs.judge.Goals as goal

pub returns-then-s-eq0 : goal.returns-then-s-eq0
returns-then-s-eq0 c = ap Err c.noted.ensures ∙ none_yet _ c.args.s.now c.if-s-eq0.true

pub sized-requires : goal.sized-requires
sized-requires c = (omega arith, sym c.message_kind.ensures ∙ c.if-message_kind.true)

pub returns-else-message_kind : goal.returns-else-message_kind
returns-else-message_kind c =
    ap Err c.noted-else-message_kind.ensures
    ∙ kind_spoils _ c.args.s.now (omega arith) (sym
    c.message_kind.ensures ∙ c.if-message_kind.false)
