-- `turns::cut` meets its contract: all that has come of the contents may stand, or an octet spoils them.
-- Assumes nothing.
use Rattle.std.proofs.Common.{arith}
use Rattle.turns.proofs.Ways.{as_word, cut_near, cut_off, cut_wrong}
use Rattle.turns.proofs.cut.Goals as goal

pub overflow_add-start-2 : goal.overflow_add-start-2
overflow_add-start-2 c =
    omega (
      arith,
      c.requires.1,
      c.requires.0.near,
      cut_near _ _ _ _ _ _ c.args.sum c.args.count c.requires.0 _ c.requires.1
          c.reached-good.ensures,
    )

pub returns-then-start-good : goal.returns-then-start-good
returns-then-start-good c =
    as_word _ _ _ _ _ _ _ _ c.word.ensures
    (cut_wrong _ _ _ _ _ _ _ _ c.requires.0 _ c.requires.1 c.reached-good.ensures
    c.if-start-good.true)

pub returns-else-start-good : goal.returns-else-start-good
returns-else-start-good c =
    as_word _ _ _ _ _ _ _ _ c.word-else-start-good.ensures
    (cut_off _ _ _ _ _ _ _ _ c.requires.0 _ c.requires.1 c.reached-good.ensures
    c.if-start-good.false)
