-- `firmware::parts::lay_part` meets its contract: side, start and length stand behind one another.
-- Assumes nothing.
use Rattle.rules.proofs.Laying.{rest_laid}
use Rattle.firmware.proofs.PartRecord.{part_laid}
use Rattle.firmware.proofs.parts.lay_part.Goals as goal

pub returns : goal.returns
returns c =
    part_laid _ _ _ _ c.requires _ _ _ c.lay_side.ensures
    (rest_laid _ _ _ 8 c.lay_number.ensures)
    (rest_laid _ _ _ 16 c.lay_number-2.ensures)
