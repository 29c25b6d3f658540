-- `desk::places_fit` meets its contract. The loop's invariant: the places before i may stand, so those from i on
-- decide. The measure is the places left.
-- Assumes nothing.
use mathlib.Core.Path.{◌≡◌}
use lib.ListN.{drop}
use Rattle.desk.specs.References.{places_fit}
use Rattle.desk.proofs.places_fit.Given as goal

abbrev pub invariant-loop-i : goal.invariant-loop-i
invariant-loop-i l = places_fit l.places ≡ places_fit (drop l.i l.places)
