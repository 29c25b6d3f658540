-- `relist::lay_contents` meets its contract: a copy, or a copy behind a copy.
-- Assumes nothing.
use Rattle.std.proofs.Common.{◌≡◌, ◌≤◌, length, sym, ◌∙◌, arith, rules, length-take-le}
use Rattle.relist.proofs.Sealing.{ten_at_most, ten_there, read_head, read_both}
use Rattle.relist.proofs.lay_contents.Goals as goal
use Rattle.relist.proofs.lay_contents.Goals.{After-back_of-back}

-- there is room for what is read off before the value
room : (c : After-back_of-back) → c.back_of-back.result.length ≤ length c.args.out.now
room c =
    let k : length c.args.out.now ≡ 274 = search rules in omega (arith, ten_at_most _ _ _ c.back_of-back.ensures)

pub shared_ref_as_front-copy_from_slice : goal.shared_ref_as_front-copy_from_slice
shared_ref_as_front-copy_from_slice c = ten_at_most _ _ _ c.back_of-back.ensures

pub returns-then-back-value : goal.returns-then-back-value
returns-then-back-value c =
    read_both _ _ _ c.back_of-back.ensures _ _ c.copy_from_slice.ensures.after c.if-back-value.true _
    c.copy_from_slice-then-back-value.ensures.after

pub returns-else-back-value : goal.returns-else-back-value
returns-else-back-value c =
    read_head _ _ _ c.back_of-back.ensures _ _ c.copy_from_slice.ensures.after c.if-back-value.false

pub slice_bounds-copy_from_slice-end : goal.slice_bounds-copy_from_slice-end
slice_bounds-copy_from_slice-end c = omega (arith, ten_at_most _ _ _ c.back_of-back.ensures)

pub slice_bounds-copy_from_slice-end-2 : goal.slice_bounds-copy_from_slice-end-2
slice_bounds-copy_from_slice-end-2 c =
    sym (length-take-le _ _ (room (goal.at.slice_bounds-copy_from_slice-end-2 c).After-back_of-back))

pub slice_bounds-copy_from_slice-end-3 : goal.slice_bounds-copy_from_slice-end-3
slice_bounds-copy_from_slice-end-3 c = sym (length-take-le _ _ (ten_there _ _ _ c.back_of-back.ensures))

pub copy_from_slice-requires : goal.copy_from_slice-requires
copy_from_slice-requires c =
    length-take-le _ _ (room (goal.at.copy_from_slice-requires c).After-back_of-back)
    ∙ sym (length-take-le _ _ (ten_there _ _ _ c.back_of-back.ensures))
