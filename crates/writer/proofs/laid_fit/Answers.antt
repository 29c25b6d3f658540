-- `writer::laid_fit` meets its contract: what is too long fits nowhere; else the octets laid down are judged.
-- Assumes nothing.
use Rattle.writer.proofs.Contents.{both_there, both_long}
use Rattle.writer.proofs.laid_fit.Goals as goal

pub returns-then-head-text : goal.returns-then-head-text
returns-then-head-text c = both_long c.args.class c.args.head.now c.args.text.now c.requires c.if-head-text.true

pub returns : goal.returns
returns c = both_there c.args.class c.args.head.now c.args.text.now _ _ _ c.put_both.ensures c.fits.ensures
