-- `listener::at_check` meets its contract: the checksum wanted is a wrapping subtract from zero.
-- Assumes nothing.
use Rattle.std.proofs.Common.{ap, arith}
use Rattle.rules.specs.declared.State.TheVariants.{Refused}
use Rattle.rules.proofs.Steps.{seals, spoils}
use Rattle.listener.proofs.at_check.Goals as goal

pub returns-then-x-q : goal.returns-then-x-q
returns-then-x-q c = seals _ _ _ _ (omega arith) (omega arith) (omega arith) c.if-x-q.true

pub returns-else-x-q : goal.returns-else-x-q
returns-else-x-q c =
    spoils _ _ _ _ (omega arith) (omega arith) (omega arith) _
    c.if-x-q.false (ap Refused c.noted.ensures)
