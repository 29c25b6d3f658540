-- `firmware::desks::places_in` meets its contract. The loop's invariant: the places before i are read. The measure is the
-- places left.
-- Assumes nothing.
use mathlib.Core.Path.{refl}
use native.Mathlib.Omega.{arith}
use Rattle.firmware.proofs.RecordPlaces.{taken_first, taken_more, taken_end}
use Rattle.firmware.proofs.desks.places_in.Goals as goal

pub loop-i-init : goal.loop-i-init
loop-i-init c = taken_first _ _ refl

pub slice_bounds-place_in-count : goal.slice_bounds-place_in-count
slice_bounds-place_in-count c = omega (arith, c.requires, c.loop-i-test.true)

pub slice_bounds-place_in-start : goal.slice_bounds-place_in-start
slice_bounds-place_in-start c = omega (arith, c.requires, c.loop-i-test.true)

pub bounds-places-i : goal.bounds-places-i
bounds-places-i c = omega (arith, c.loop-i.invariant.long, c.loop-i-test.true)

pub loop-i-preserved : goal.loop-i-preserved
loop-i-preserved c =
    taken_more _ _ _ c.loop-i.invariant c.loop-i-test.true _
    c.place_in.ensures

pub returns : goal.returns
returns c = taken_end _ _ _ c.loop-i.invariant c.loop-i-test.false
