-- `relist::seal` meets its contract: the message's octets before the checksum, and then that.
-- Assumes nothing.
use Rattle.std.proofs.Common.{◌≡◌, length, sym, arith, length-set, length-take-le}
use Rattle.relist.proofs.Sealing.{opened_long, fronted, sealing}
use Rattle.relist.proofs.seal.Goals as goal
use Rattle.relist.proofs.seal.Goals.{After-copy_from_slice}

-- the output keeps its length
long : (c : After-copy_from_slice) →
    length (fronted c.args.body.now c.args.out.now c.args.kind c.copy_from_slice.new.self) ≡ length c.args.out.now
long c =
    opened_long c.args.out.now c.args.kind (length c.args.body.now) 0 _ c.copy_from_slice.new.self
    c.copy_from_slice.auto.self

pub bounds-out-1 : goal.bounds-out-1
bounds-out-1 c = simp length-set (omega arith)

pub slice_bounds-sum_of-end : goal.slice_bounds-sum_of-end
slice_bounds-sum_of-end c = omega (arith, long (goal.at.slice_bounds-sum_of-end c).After-copy_from_slice, c.requires.1)

pub slice_bounds-sum_of-end-2 : goal.slice_bounds-sum_of-end-2
slice_bounds-sum_of-end-2 c =
    let k = long (goal.at.slice_bounds-sum_of-end-2 c).After-copy_from_slice in
    sym (length-take-le _ _ (omega (arith, k, c.requires.1)))

pub bounds-out-end : goal.bounds-out-end
bounds-out-end c = omega (arith, long (goal.at.bounds-out-end c).After-copy_from_slice, c.requires.1)

pub returns : goal.returns
returns c =
    sealing _ _ _ c.requires.1 _ c.copy_from_slice.ensures.after _ _
    c.sum_of-sum.ensures (omega arith) (omega arith)
