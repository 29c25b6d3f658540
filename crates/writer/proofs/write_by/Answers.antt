-- `writer::write_by` meets its contract: what is judged to have room has it.
-- Assumes nothing.
use Rattle.std.proofs.Common.{arith}
use Rattle.writer.proofs.Calls.{layable}
use Rattle.writer.proofs.write_by.Goals as goal

pub overflow_sub-size : goal.overflow_sub-size
overflow_sub-size c =
    let h = layable _ c.args.draft c.args.texts.now _ _ _ c.judge.ensures c.in_ok-size.was in omega arith

pub overflow_cast-size : goal.overflow_cast-size
overflow_cast-size c =
    let h = layable _ c.args.draft c.args.texts.now _ _ _ c.judge.ensures c.in_ok-size.was in omega arith

pub put_message-requires : goal.put_message-requires
put_message-requires c = (layable _ c.args.draft c.args.texts.now _ _ _ c.judge.ensures c.in_ok-size.was).0
