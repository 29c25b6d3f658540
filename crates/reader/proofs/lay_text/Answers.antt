-- `reader::lay_text` meets its contract: the octets are copied over a part of the area that is as long.
-- Assumes nothing.
use native.Mathlib.Omega.{arith}
use Rattle.rules.proofs.Laying.{part_over}
use Rattle.reader.proofs.lay_text.Goals as goal

pub returns : goal.returns
returns c = part_over c.args.text.now c.args.area.now _ c.args.at _ (omega arith) c.copy_from_slice.ensures.after
