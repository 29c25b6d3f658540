-- `turns::check` meets its contract: the checksum wanted is a wrapping subtract from zero.
-- Assumes nothing.
use Rattle.std.proofs.Common.{refl, arith}
use Rattle.turns.proofs.Ways.{as_word, sums_up, sums_not}
use Rattle.turns.proofs.check.Goals as goal

pub returns-then-s-at : goal.returns-then-s-at
returns-then-s-at c R count =
    as_word R _ _ _ _ count _ _ c.word.ensures
    (sums_up R _ _ _ _ count c.requires.1 refl _ (omega arith) (omega arith) (omega arith)
    c.if-s-at.true)

pub returns-else-s-at : goal.returns-else-s-at
returns-else-s-at c R count =
    as_word R _ _ _ _ count _ _ c.word-else-s-at.ensures
    (sums_not R _ _ _ _ count c.requires.1 refl _ (omega arith) (omega arith) (omega arith)
    c.if-s-at.false)
