-- `firmware::anthercup_read_way` meets its contract: the size first, then edition and way, then the whole read.
-- Assumes nothing.
use mathlib.Core.Path.{refl}
use Rattle.rules.proofs.Returns.{pick_t, pick_f, via, yes_eq, no_eq}
use Rattle.firmware.specs.Exports.{read_answer, read_record, read_texts}
use Rattle.firmware.proofs.anthercup_read_way.Goals as goal

pub returns-then-is_known : goal.returns-then-is_known
unfolding read_answer read_record read_texts
returns-then-is_known c =
    let n = yes_eq _ _ c.if-cells-eq-DRAFT.true in
    let k = via _ _ _ c.is_known.ensures c.if-is_known.true in
    let r = c.read_into.ensures in
    record {
      answer = pick_t _ _ _ _ n (pick_t _ _ _ _ k r.answer);
      cells = pick_t _ _ _ _ n (pick_t _ _ _ _ k r.cells);
      texts = pick_t _ _ _ _ n (pick_t _ _ _ _ k r.texts);
    }

pub returns-else-is_known : goal.returns-else-is_known
unfolding read_answer read_record read_texts
returns-else-is_known c =
    let n = yes_eq _ _ c.if-cells-eq-DRAFT.true in
    let k = via _ _ _ c.is_known.ensures c.if-is_known.false in
    record {
      answer = pick_t _ _ _ _ n (pick_f _ _ _ _ k c.plain.ensures);
      cells = pick_t _ _ _ _ n (pick_f _ _ _ _ k refl);
      texts = pick_t _ _ _ _ n (pick_f _ _ _ _ k refl);
    }

pub returns-else-cells-eq-DRAFT : goal.returns-else-cells-eq-DRAFT
unfolding read_answer read_record read_texts
returns-else-cells-eq-DRAFT c =
    let n = no_eq _ _ c.if-cells-eq-DRAFT.false in
    record {
      answer = pick_f _ _ _ _ n c.plain-else-cells-eq-DRAFT.ensures;
      cells = pick_f _ _ _ _ n refl;
      texts = pick_f _ _ _ _ n refl;
    }
