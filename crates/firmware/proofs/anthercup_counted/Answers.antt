-- `firmware::anthercup_counted` meets its contract: by known numbers; else 16.
-- Assumes nothing.
use Rattle.rules.proofs.Returns.{pick_t, pick_f, via}
use Rattle.firmware.specs.Exports.{counted_answer}
use Rattle.firmware.proofs.anthercup_counted.Goals as goal

pub returns-then-is_known : goal.returns-then-is_known
unfolding counted_answer
returns-then-is_known c = pick_t _ _ _ _ (via _ _ _ c.is_known.ensures c.if-is_known.true) c.counted_by.ensures

pub returns-else-is_known : goal.returns-else-is_known
unfolding counted_answer
returns-else-is_known c = pick_f _ _ _ _ (via _ _ _ c.is_known.ensures c.if-is_known.false) c.plain.ensures
