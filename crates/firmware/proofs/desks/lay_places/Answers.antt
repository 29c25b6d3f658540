-- `firmware::desks::lay_places` meets its contract. The loop's invariant: the places before i are laid behind the first four
-- octets. The measure is the places left.
-- Assumes nothing.
use mathlib.Core.Path.{◌≡◌, refl}
use Prim.Native.Nat.{◌+◌, ◌*◌}
use native.Mathlib.Omega.{arith}
use lib.ListN.{length, length-take, length-drop}
use Rattle.desk.specs.References.{place_count}
use Rattle.firmware.proofs.RecordPlaces.{laid_first, laid_more, laid_end}
use Rattle.rules.proofs.Laying.{rest_laid}
use borrow.Author.Rules.{rules}
use Rattle.firmware.proofs.desks.lay_places.Goals as goal

pub loop-i-init : goal.loop-i-init
loop-i-init c = laid_first _ _ c.requires

pub slice_bounds-lay_place-count : goal.slice_bounds-lay_place-count
slice_bounds-lay_place-count c = omega (arith, c.loop-i.invariant.long, c.loop-i-test.true)

pub slice_bounds-lay_place-start : goal.slice_bounds-lay_place-start
slice_bounds-lay_place-start c = omega (arith, c.loop-i.invariant.long, c.loop-i-test.true)

pub lay_place-requires : goal.lay_place-requires
lay_place-requires c = simp (length-take, length-drop) (omega (arith, c.loop-i.invariant.long, c.loop-i-test.true))

pub loop-i-preserved : goal.loop-i-preserved
loop-i-preserved c =
    let l : length c.args.places ≡ place_count = search rules in
    laid_more _ _ _ _ c.loop-i.invariant l c.loop-i-test.true _ refl _
    (rest_laid _ _ _ (4 + 3 * c.loop-i.i) c.lay_place.ensures)

pub returns : goal.returns
returns c =
    let l : length c.args.places ≡ place_count = search rules in
    laid_end _ _ _ _ c.loop-i.invariant l c.loop-i-test.false
