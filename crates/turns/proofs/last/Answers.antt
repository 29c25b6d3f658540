-- `turns::last` meets its contract: each way to a stop at a header that no contents follow.
-- Assumes nothing.
use Rattle.std.proofs.Common.{ℕ, ◌+◌, ap, ◌∙◌, arith}
use Rattle.rules.specs.Table.{class_fault}
use Rattle.turns.specs.Turns.{stop}
use Rattle.turns.proofs.Ways.{as_word, none_left, type_left, length_left, type_wrong, length_wrong, possible_told, fitting_told}
use Rattle.turns.proofs.last.Goals as goal

pub returns-then-n-at : goal.returns-then-n-at
returns-then-n-at c = as_word _ _ _ _ _ _ _ _ c.word.ensures (none_left _ _ _ _ _ _ c.if-n-at.true)

pub returns-then-room-eq0 : goal.returns-then-room-eq0
returns-then-room-eq0 c = rw c.if-room-eq0.true (c.check.ensures _ _)

pub returns-then-n-at-2 : goal.returns-then-n-at-2
returns-then-n-at-2 c =
    as_word _ _ _ _ _ _ _ _ c.word-then-n-at-2.ensures
    (type_left _ _ _ _ _ _ (omega (arith, c.if-n-at.false)) c.if-n-at-2.true c.if-room-eq0.false
    (possible_told _ _ _ _ _ c.class_of-class.ensures c.possible.ensures c.if-possible.true))

pub returns-then-length_fits : goal.returns-then-length_fits
returns-then-length_fits c =
    let fitting =
    fitting_told _ _ _ _ _ c.class_of-class.ensures _ c.length_fits.ensures c.if-length_fits.true in
    as_word _ _ _ _ _ _ _ _ c.word-then-length_fits.ensures
    (length_left _ _ _ _ _ _ (omega (arith, c.if-n-at-2.false)) fitting (c.requires.1 fitting))

pub returns-else-length_fits : goal.returns-else-length_fits
returns-else-length_fits c =
    as_word _ _ _ _ _ _ _ _ c.word-else-length_fits.ensures
    (length_wrong _ _ _ _ _ _ (omega (arith, c.if-n-at-2.false)) c.if-room-eq0.false
    (possible_told _ _ _ _ _ c.class_of-class.ensures c.possible.ensures c.if-possible.true)
    (fitting_told _ _ _ _ _ c.class_of-class.ensures _ c.length_fits.ensures c.if-length_fits.false))

pub returns-else-possible : goal.returns-else-possible
returns-else-possible c =
    as_word _ _ _ _ _ _ _ _ (c.word-else-possible.ensures ∙ ap (λ (k : ℕ). stop k c.args.at 0 0
    (c.args.count + 1))
    (c.class_fault.ensures ∙ ap class_fault c.class_of-class.ensures))
    (type_wrong _ _ _ _ _ _ (omega (arith, c.if-n-at.false)) c.if-room-eq0.false
    (possible_told _ _ _ _ _ c.class_of-class.ensures c.possible.ensures c.if-possible.false))
