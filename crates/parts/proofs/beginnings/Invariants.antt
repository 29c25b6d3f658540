-- `parts::beginnings` meets its contract. No more are counted than places were asked.
-- Assumes nothing.
use Rattle.std.proofs.Common.{◌≤◌}
use Rattle.parts.proofs.beginnings.Given as goal

abbrev pub invariant-loop-place : goal.invariant-loop-place
invariant-loop-place l = l.count ≤ l.place
