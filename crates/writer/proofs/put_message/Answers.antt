-- `writer::put_message` meets its contract: the checksum behind all the others.
-- Assumes nothing.
use Rattle.std.proofs.Common.{◌<◌, length, sym, arith, length-set, length-take-le, rules}
use Rattle.writer.proofs.Laying.{front_fits, sealed}
use Rattle.writer.proofs.put_message.Goals as goal
use Rattle.writer.proofs.put_message.Goals.{After-put_front-end}

-- there is room for it
room : (c : After-put_front-end) → c.put_front-end.result < length c.args.out.now
room c = omega (arith, c.put_front-end.ensures.1, front_fits c.args.draft c.args.texts.now _ _ c.requires)

pub put_front-end-requires : goal.put_front-end-requires
put_front-end-requires c = c.requires

pub slice_bounds-sum_of-end : goal.slice_bounds-sum_of-end
slice_bounds-sum_of-end c = omega (arith, room (goal.at.slice_bounds-sum_of-end c).After-put_front-end)

pub slice_bounds-sum_of-end-2 : goal.slice_bounds-sum_of-end-2
slice_bounds-sum_of-end-2 c =
    sym (length-take-le _ _ (omega (arith, room (goal.at.slice_bounds-sum_of-end-2 c).After-put_front-end)))

pub bounds-out-end : goal.bounds-out-end
bounds-out-end c = omega (arith, room (goal.at.bounds-out-end c).After-put_front-end)

pub shape_of-out : goal.shape_of-out
shape_of-out c = simp length-set (search rules)

pub returns : goal.returns
returns c =
    sealed _ _ _ _ c.put_front-end.ensures (room (goal.at.returns c).After-put_front-end) _ _ c.sum_of-sum.ensures
    (omega arith) (omega arith)
