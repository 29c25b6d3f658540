-- `turns::reached` meets its contract. The loop's invariant: the octets before the index may stand.
-- Assumes nothing.
use Rattle.rules.proofs.Standing.{Stood}
use Rattle.turns.proofs.reached.Given as goal

abbrev pub invariant-loop-i : goal.invariant-loop-i
invariant-loop-i l = Stood l.class l.v l.length l.i l.memory
