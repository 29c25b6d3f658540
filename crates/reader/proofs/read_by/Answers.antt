-- `reader::read_by` meets its contract: what becomes of the octets, and the draft to it.
-- Assumes nothing.
use Rattle.reader.proofs.Laying.{reads_whole, reads_refused}
use Rattle.reader.proofs.read_by.Goals as goal

pub returns-then-is_ok-clause-answer : goal.returns-then-is_ok-clause-answer
returns-then-is_ok-clause-answer c =
    reads_whole _ _ _ _ _ c.pack-answer.ensures.answer _ c.edition_of-edition.ensures c.if-is_ok.ensures.value
    c.draft_of-draft.ensures

pub returns-else-is_ok-clause-answer : goal.returns-else-is_ok-clause-answer
returns-else-is_ok-clause-answer c =
    reads_refused _ _ _ _ _ c.pack-answer.ensures.answer _ c.edition_of-edition.ensures c.if-is_ok.ensures.value
    c.empty-draft.ensures
