-- `relist::row_length` meets its contract: shut out, or as the line says.
-- Assumes nothing.
use Rattle.relist.proofs.Reading.{read_shut, read_open}
use Rattle.relist.proofs.row_length.Goals as goal

pub returns-then-contains : goal.returns-then-contains
returns-then-contains c =
    read_shut _ _ _ _ _ _ c.kind_at.ensures _ c.rival_of-rival.ensures _ c.contains.ensures.value c.if-contains.true

pub returns : goal.returns
returns c =
    read_open _ _ _ _ _ _ c.kind_at.ensures _ c.rival_of-rival.ensures _ c.contains.ensures.value c.if-contains.false _
    c.line_length.ensures
