-- `rules::present_class` meets its contract: the six types of a number are told apart.
-- Assumes nothing.
use Rattle.std.proofs.Common.{arith}
use Rattle.std.proofs.lemmas.Grind.{common_steps}
use Rattle.rules.specs.Tests.{◌=?◌, pick}
use Rattle.rules.specs.Table.{row_in}
use Rattle.rules.proofs.present_class.Goals as goal

pub returns-in-2 : goal.returns-in-2
unfolding row_in pick ◌=?◌
returns-in-2 c = grind (arith, common_steps)
