-- `desk::put` meets its contract: where no place is the one sought nothing is put.
-- Assumes nothing.
use native.Mathlib.Omega.{arith}
use lib.Seq.{set_out}
use Rattle.std.proofs.lemmas.Grind.{common_steps}
use Rattle.rules.proofs.First.{found}
use Rattle.desk.proofs.put.Goals as goal

pub returns-in-Some : goal.returns-in-Some
returns-in-Some c = grind (arith, common_steps, found)

pub returns-in_default : goal.returns-in_default
returns-in_default c = grind (arith, common_steps, found, set_out)
