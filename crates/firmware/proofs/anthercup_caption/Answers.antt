-- `firmware::anthercup_caption` meets its contract: the size first, then the part.
-- Assumes nothing.
use mathlib.Core.Path.{refl}
use Rattle.rules.proofs.Returns.{pick_t, pick_f, yes_eq, no_eq}
use Rattle.firmware.specs.Exports.{caption_answer, caption_record}
use Rattle.firmware.proofs.anthercup_caption.Goals as goal

pub returns-then-cells-eq-PART : goal.returns-then-cells-eq-PART
unfolding caption_answer caption_record
returns-then-cells-eq-PART c =
    let n = yes_eq _ _ c.if-cells-eq-PART.true in
    let e = c.caption_into.ensures in
    record { answer = pick_t _ _ _ _ n e.answer; cells = pick_t _ _ _ _ n e.cells }

pub returns-else-cells-eq-PART : goal.returns-else-cells-eq-PART
unfolding caption_answer caption_record
returns-else-cells-eq-PART c = let n = no_eq _ _ c.if-cells-eq-PART.false in record { answer = pick_f _ _ _ _ n c.plain.ensures; cells = pick_f _ _ _ _ n refl }
