-- `listener::at_header` meets its contract: the checksum where no room is left; else the type is taken or declined as
-- the machine does.
-- Assumes nothing.
use Rattle.std.proofs.Common.{sym, ◌∙◌, add-one, rules}
use Rattle.rules.specs.Judge.{final, stands_in}
use Rattle.rules.proofs.Steps.{type_taken, type_declined}
use Rattle.listener.proofs.at_header.Goals as goal

pub moved-requires : goal.moved-requires
unfolding stands_in
moved-requires c = (search rules, add-one _)

pub declined-requires : goal.declined-requires
unfolding stands_in
declined-requires c = add-one _

pub returns-then-room-eq0 : goal.returns-then-room-eq0
unfolding final
returns-then-room-eq0 c = rw c.if-room-eq0.true c.at_check.ensures

pub returns-then-possible : goal.returns-then-possible
returns-then-possible c =
    type_taken _ _ _ _ _ c.if-room-eq0.false
    c.class_of-class.ensures _
    (sym c.possible.ensures ∙ c.if-possible.true) c.moved.ensures

pub returns-else-possible : goal.returns-else-possible
returns-else-possible c =
    type_declined _ _ _ _ _ c.if-room-eq0.false c.class_of-class.ensures _ _
    c.class_fault-number.ensures
    (sym c.possible.ensures ∙ c.if-possible.false) c.declined.ensures
