-- `listener::at_kind` meets its contract: the octet is taken or declined as the machine does.
-- Assumes nothing.
use Rattle.std.proofs.Common.{sym, refl, ◌∙◌}
use Rattle.rules.specs.Judge.{final, fits, after, fault, stands_in}
use Rattle.rules.proofs.Steps.{takes, declines}
use Rattle.listener.proofs.at_kind.Goals as goal

pub moved-requires : goal.moved-requires
unfolding stands_in
moved-requires c = (c.requires, refl)

pub declined-requires : goal.declined-requires
unfolding stands_in
declined-requires c = refl

pub returns-then-message_kind : goal.returns-then-message_kind
unfolding final fits after fault
returns-then-message_kind c =
    takes _ _ _ _ _ _ refl (sym c.message_kind.ensures ∙ c.if-message_kind.true) refl
    c.moved.ensures

pub returns-else-message_kind : goal.returns-else-message_kind
unfolding final fits after fault
returns-else-message_kind c =
    declines _ _ _ _ _ refl (sym c.message_kind.ensures ∙ c.if-message_kind.false)
    c.declined.ensures
