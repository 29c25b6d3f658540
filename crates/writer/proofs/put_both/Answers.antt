-- `writer::put_both` meets its contract: a copy behind a copy.
-- Assumes nothing.
use Rattle.writer.proofs.Laying.{both_laid}
use Rattle.writer.proofs.put_both.Goals as goal

pub returns : goal.returns
returns c =
    both_laid c.args.head.now c.args.text.now c.args.out.now _ _ c.copy_from_slice.ensures.after
    c.copy_from_slice-2.ensures.after
