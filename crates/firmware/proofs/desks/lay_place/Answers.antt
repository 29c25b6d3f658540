-- `firmware::desks::lay_place` meets its contract: the first three octets are stored.
-- Assumes nothing.
use Rattle.std.proofs.Common.{[], ◌∷◌, ℕ, List, get_or, ap, ◌∙◌}
use lib.Seq.{sets}
use Rattle.firmware.specs.DeskRecord.{place_cells}
use Rattle.firmware.proofs.Cells.{stored_front}
use Rattle.firmware.proofs.desks.lay_place.Goals as goal

pub returns : goal.returns
unfolding place_cells
returns c =
    ap (λ (r : List ℕ). sets c.args.cells.now 0 (get_or r 0 0 ∷ get_or r 1 0 ∷ get_or r 2 0 ∷ []))
    c.to_le_bytes.ensures
    ∙ stored_front (place_cells c.args.place) c.args.cells.now c.requires
