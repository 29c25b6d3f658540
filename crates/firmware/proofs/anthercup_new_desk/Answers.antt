-- `firmware::anthercup_new_desk` meets its contract: the size alone is judged.
-- Assumes nothing.
use mathlib.Core.Path.{refl, ◌∙◌, ap}
use Rattle.rules.proofs.Returns.{pick_t, pick_f, yes_eq, no_eq}
use Rattle.firmware.specs.DeskRecord.{desk_record}
use Rattle.firmware.specs.Exports.{new_desk_answer, new_desk_record}
use Rattle.firmware.proofs.anthercup_new_desk.Goals as goal

pub returns-then-cells-eq-DESK : goal.returns-then-cells-eq-DESK
unfolding new_desk_answer new_desk_record
returns-then-cells-eq-DESK c =
    let n = yes_eq _ _ c.if-cells-eq-DESK.true in (
      pick_t _ _ _ _ n c.plain.ensures,
      pick_t _ _ _ _ n
          (c.encode.ensures ∙ ap desk_record c.new_desk.ensures),
    )

pub returns-else-cells-eq-DESK : goal.returns-else-cells-eq-DESK
unfolding new_desk_answer new_desk_record
returns-else-cells-eq-DESK c =
    let n = no_eq _ _ c.if-cells-eq-DESK.false in
    (pick_f _ _ _ _ n c.plain-else-cells-eq-DESK.ensures, pick_f _ _ _ _ n refl)
