-- `writer::put_entry` meets its contract: its numbers are spelled, its text is taken from its place.
-- Assumes nothing.
use Rattle.std.proofs.Common.{sym, arith, length-take-le}
use Rattle.writer.proofs.Judging.{head_few, padded_room, padded_long}
use Rattle.writer.proofs.Laying.{text_inside, entry_asked, entry_put}
use Rattle.writer.proofs.put_entry.Goals as goal

pub overflow_add-end : goal.overflow_add-end
overflow_add-end c =
    let h = text_inside _ _ _ c.flatten-flat.ensures _ c.spell-spelling.ensures _ c.requires in
    omega arith

pub slice_bounds-put_parameter-end : goal.slice_bounds-put_parameter-end
slice_bounds-put_parameter-end c = sym (length-take-le _ _ (padded_room _ _ c.spell-spelling.ensures))

pub slice_bounds-put_parameter-end-2 : goal.slice_bounds-put_parameter-end-2
slice_bounds-put_parameter-end-2 c = text_inside _ _ _ c.flatten-flat.ensures _ c.spell-spelling.ensures _ c.requires

pub put_parameter-requires : goal.put_parameter-requires
put_parameter-requires c = entry_asked _ _ _ c.flatten-flat.ensures _ c.spell-spelling.ensures _ c.requires

pub returns : goal.returns
returns c =
    entry_put _ _ _ c.flatten-flat.ensures _ c.spell-spelling.ensures _ c.requires _ _ _
    c.put_parameter.ensures

pub shared_ref_as_front-put_parameter : goal.shared_ref_as_front-put_parameter
shared_ref_as_front-put_parameter c =
    omega (arith, padded_long _ _ c.spell-spelling.ensures, head_few c.args.e.value)
