-- `listener::at_length` meets its contract: the octet is taken or declined as the machine does; a length that fits
-- leaves room.
-- Assumes nothing.
use Rattle.std.proofs.Common.{sym, refl, ap, ◌∙◌, arith}
use Rattle.rules.proofs.Tests.{both}
use Rattle.rules.specs.Judge.{final, fits, contents, after, fault, stands_in}
use Rattle.rules.proofs.Returns.{T_of}
use Rattle.rules.proofs.Steps.{takes, declines, room_left}
use Rattle.listener.proofs.at_length.Goals as goal

pub overflow_sub-room : goal.overflow_sub-room
unfolding final fits after fault
overflow_sub-room c =
    let h = room_left c.args.x c.args.room
    (both _ _ (T_of _ (sym c.length_fits.ensures ∙ c.if-length_fits.true))).1 in
    omega arith

pub overflow_sub-room-then-length_fits : goal.overflow_sub-room-then-length_fits
unfolding final fits after fault
overflow_sub-room-then-length_fits c =
    let h = room_left c.args.x c.args.room
    (both _ _ (T_of _ (sym c.length_fits.ensures ∙ c.if-length_fits.true))).1 in
    omega arith

pub moved-requires : goal.moved-requires
unfolding stands_in
moved-requires c = (c.requires, refl)

pub declined-requires : goal.declined-requires
unfolding stands_in
declined-requires c = refl

pub returns-then-length_fits : goal.returns-then-length_fits
unfolding final fits after fault
returns-then-length_fits c =
    takes _ _ _ _ _ _ refl (sym c.length_fits.ensures ∙ c.if-length_fits.true)
    (c.contents-next.ensures ∙ ap (contents _ _ 0 0) (omega arith)) c.moved.ensures

pub returns-else-length_fits : goal.returns-else-length_fits
unfolding final fits after fault
returns-else-length_fits c =
    declines _ _ _ _ _ refl (sym c.length_fits.ensures ∙ c.if-length_fits.false)
    c.declined.ensures
