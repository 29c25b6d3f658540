-- `makemsg::make` meets its contract: the message lies within the output.
-- Assumes nothing.
use Rattle.std.proofs.Common.{sym, arith, length-take-le}
use Rattle.relist.proofs.Answers.{message_within}
use Rattle.makemsg.proofs.make.Goals as goal

pub slice_bounds-message-end : goal.slice_bounds-message-end
slice_bounds-message-end g c =
    let made = c.message_of-writing in
    omega (arith, message_within _ _ _ _ made.ensures.answer c.in-Ok.is, made.auto.out)

pub slice_bounds-write_all-end : goal.slice_bounds-write_all-end
slice_bounds-write_all-end g c =
    let made = c.message_of-writing in
    sym (length-take-le _ _
    (omega (arith, message_within _ _ _ _ made.ensures.answer c.in-Ok.is, made.auto.out)))
