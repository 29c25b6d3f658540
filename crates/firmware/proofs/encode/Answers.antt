-- `firmware::encode` meets its contract: edition, way and the fields of the state, laid down.
-- Assumes nothing.
use mathlib.Core.Path.{◌∙◌, ap}
use Rattle.firmware.specs.Record.{laid_fields, record_of}
use Rattle.firmware.proofs.encode.Goals as goal

pub returns : goal.returns
unfolding record_of
returns c = c.lay.ensures ∙ ap (laid_fields _ _) c.fields_for.ensures
