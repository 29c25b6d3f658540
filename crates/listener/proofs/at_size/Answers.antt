-- `listener::at_size` meets its contract: the octet is taken or declined as the machine does.
-- Assumes nothing.
use Rattle.std.proofs.Common.{refl}
use Rattle.rules.specs.Judge.{final, fits, after, fault, stands_in}
use Rattle.rules.proofs.Returns.{yes_le, no_le}
use Rattle.rules.proofs.Steps.{takes, declines}
use Rattle.listener.proofs.at_size.Goals as goal

pub moved-requires : goal.moved-requires
unfolding stands_in
moved-requires c = (c.requires, refl)

pub declined-requires : goal.declined-requires
unfolding stands_in
declined-requires c = refl

pub returns-then-x-ge3 : goal.returns-then-x-ge3
unfolding final fits after fault
returns-then-x-ge3 c = takes _ _ _ _ _ _ refl (yes_le _ _ c.if-x-ge3.true) refl c.moved.ensures

pub returns-else-x-ge3 : goal.returns-else-x-ge3
unfolding final fits after fault
returns-else-x-ge3 c = declines _ _ _ _ _ refl (no_le _ _ c.if-x-ge3.false) c.declined.ensures
