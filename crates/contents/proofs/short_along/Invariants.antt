-- `contents::short_along` meets its contract. The loop's invariant: the octets before the index may stand. The
-- measure is how far the fourteenth is; behind it any octet may stand.
-- Assumes nothing.
use Prim.Native.Nat.{◌≤◌}
use lib.ListN.{length}
use Rattle.rules.proofs.Standing.{Stood}
use Rattle.contents.proofs.short_along.Given as goal

abbrev pub invariant-loop-index : goal.invariant-loop-index
invariant-loop-index l = (l.index ≤ length l.v) × Stood l.c l.v (length l.v) l.index l.memory
