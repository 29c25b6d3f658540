-- `firmware::desks::places_in` meets its contract. The loop's invariant: the places before i are read. The measure is the
-- places left.
-- Assumes nothing.
use Rattle.firmware.proofs.RecordPlaces.{ReadPlaces}
use Rattle.firmware.proofs.desks.places_in.Given as goal

abbrev pub invariant-loop-i : goal.invariant-loop-i
invariant-loop-i l = ReadPlaces l.cells l.i l.places
