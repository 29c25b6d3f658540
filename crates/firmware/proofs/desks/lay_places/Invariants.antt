-- `firmware::desks::lay_places` meets its contract. The loop's invariant: the places before i are laid behind the first four
-- octets. The measure is the places left.
-- Assumes nothing.
use Rattle.firmware.proofs.RecordPlaces.{LaidPlaces}
use Rattle.firmware.proofs.desks.lay_places.Given as goal

abbrev pub invariant-loop-i : goal.invariant-loop-i
invariant-loop-i l = LaidPlaces l.initial.cells l.place-items l.i l.cells
