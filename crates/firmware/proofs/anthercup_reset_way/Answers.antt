-- `firmware::anthercup_reset_way` meets its contract: the size, then edition and way.
-- Assumes nothing.
use mathlib.Core.Path.{refl, ◌∙◌, ap}
use Rattle.rules.proofs.Returns.{pick_t, pick_f, via, yes_eq, no_eq}
use Rattle.firmware.specs.Record.{record_of}
use Rattle.firmware.specs.Exports.{reset_answer, reset_record}
use Rattle.firmware.proofs.anthercup_reset_way.Goals as goal

pub returns-then-is_known : goal.returns-then-is_known
unfolding reset_answer reset_record
returns-then-is_known c =
    let n = yes_eq _ _ c.if-cells-eq-LISTENER.true in
    let k = via _ _ _ c.is_known.ensures c.if-is_known.true in (
      pick_t _ _ _ _ n (pick_t _ _ _ _ k c.packed.ensures),
      pick_t _ _ _ _ n (pick_t _ _ _ _ k
          (c.encode.ensures ∙ ap record_of c.reset_way.ensures)),
    )

pub returns-else-is_known : goal.returns-else-is_known
unfolding reset_answer reset_record
returns-else-is_known c =
    let n = yes_eq _ _ c.if-cells-eq-LISTENER.true in
    let k = via _ _ _ c.is_known.ensures c.if-is_known.false in
    (pick_t _ _ _ _ n (pick_f _ _ _ _ k c.plain.ensures), pick_t _ _ _ _ n (pick_f _ _ _ _ k refl))

pub returns-else-cells-eq-LISTENER : goal.returns-else-cells-eq-LISTENER
unfolding reset_answer reset_record
returns-else-cells-eq-LISTENER c =
    let n = no_eq _ _ c.if-cells-eq-LISTENER.false in
    (pick_f _ _ _ _ n c.plain-else-cells-eq-LISTENER.ensures, pick_f _ _ _ _ n refl)
