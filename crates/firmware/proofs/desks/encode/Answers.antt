-- `firmware::desks::encode` meets its contract: the first four octets are stored, then the places.
-- Assumes nothing.
use mathlib.Core.Path.{◌∙◌}
use mathlib.Core.List.{◌∷◌, ◌++◌}
use native.Mathlib.Omega.{arith}
use lib.ListN.{length-set}
use Rattle.firmware.specs.DeskRecord.{places_cells, desk_record}
use Rattle.firmware.proofs.RecordPlaces.{first_four}
use Rattle.firmware.proofs.desks.encode.Goals as goal

pub shape_of-cells : goal.shape_of-cells
shape_of-cells c = simp length-set at c.cells-1.given

pub returns : goal.returns
unfolding desk_record
returns c =
    let places = c.args.d.places in
    c.lay_places.ensures
    ∙ (λ i. first_four c.args.cells.now (omega (arith, c.requires))
    c.waiting_code-code.result c.waiting_number-number.result
    c.lamp_code-light.result 0 i ++ places_cells places)
    ∙ (λ i. c.waiting_code-code.ensures i
    ∷ c.waiting_number-number.ensures i ∷ c.lamp_code-light.ensures i ∷ 0 ∷ places_cells
    places)
