-- `listener::along` meets its contract: the table has the row of each octet, and is at hand where the class asks for
-- it.
-- Assumes nothing.
use Rattle.std.proofs.Common.{false, sym, ◌∙◌}
use Rattle.rules.specs.Tests.{◌≤?◌, ◌and◌, ◌or◌}
use Rattle.rules.specs.Contents.{within, in_set, digit}
use Rattle.rules.specs.OctetRows.{bit, kinds_of}
use Rattle.rules.proofs.Table.{tabled}
use Rattle.rules.proofs.OctetRows.{kind_rows, rowed}
use Rattle.rules.proofs.Returns.{T_of}
use Rattle.listener.proofs.along.Goals as goal

pub by_octets-requires : goal.by_octets-requires
unfolding kind_rows tabled kinds_of bit digit within in_set ◌or◌ ◌and◌ ◌≤?◌
by_octets-requires c = (c.requires.0, c.requires.1, λ _. rowed)

pub by_octets-requires-else-asks : goal.by_octets-requires-else-asks
by_octets-requires-else-asks c = (
  c.requires.0,
  c.requires.1,
  λ asked. absurd (T_of false (sym c.if-asks.false ∙ c.asks.ensures ∙ asked)),
)
