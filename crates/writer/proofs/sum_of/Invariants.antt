-- `writer::sum_of` meets its contract. The loop's invariant: the sum of the octets so far.
-- Assumes nothing.
use Rattle.std.proofs.Common.{◌≡◌, ◌%◌, take}
use Rattle.rules.specs.Octets.{total}
use Rattle.writer.proofs.sum_of.Given as goal

abbrev pub invariant-loop-x : goal.invariant-loop-x
invariant-loop-x l = l.sum ≡ total (take l.x-index l.s) % 256
