-- `contents::kind_along` meets its contract. The loop's invariant: the octets before i are of the kind, so those from i
-- on decide.
-- Assumes nothing.
use Rattle.rules.specs.OctetRows.{kind_set}
use Rattle.rules.proofs.Standing.{TextSoFar}
use Rattle.contents.proofs.kind_along.Given as goal

abbrev pub invariant-loop-i : goal.invariant-loop-i
invariant-loop-i l = TextSoFar (kind_set l.kind) l.v l.i
