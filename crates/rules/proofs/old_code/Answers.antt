-- `rules::old_code` meets its contract.
-- Assumes nothing.
use Rattle.std.proofs.Common.{arith}
use Rattle.std.proofs.lemmas.Grind.{common_steps}
use Rattle.rules.specs.Contents.{in_set, within}
use Rattle.rules.specs.Tests.{◌≤?◌, ◌and◌, ◌or◌}
use Rattle.rules.proofs.old_code.Goals as goal

pub returns-in-1 : goal.returns-in-1
unfolding in_set within ◌≤?◌ ◌and◌ ◌or◌
returns-in-1 c = grind (arith, common_steps)
