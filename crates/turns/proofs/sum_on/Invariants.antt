-- `turns::sum_on` meets its contract. The loop's invariant: the sum of the octets so far.
-- Assumes nothing.
use Rattle.std.proofs.Common.{◌≡◌, take}
use Rattle.turns.specs.Turns.{summed}
use Rattle.turns.proofs.sum_on.Given as goal

abbrev pub invariant-loop-x : goal.invariant-loop-x
invariant-loop-x l = l.total ≡ summed l.sum (take l.x-index l.x-items)
