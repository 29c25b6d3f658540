-- `relist::take_rows` meets its contract. The loop's invariant: what the rows so far took, and the rows behind them in
-- the text behind that, come to what all rows take. The measure is the rows left.
-- Assumes nothing.
use Rattle.std.proofs.Common.{◌≡◌, ◌≤◌, length, sym, refl, arith, rules, length-take, length-take-le}
use Rattle.relist.proofs.Reading.{line_within}
use Rattle.relist.proofs.Rows.{took_nothing, kinds_long, read_few, took_none, took_more, took_all}
use Rattle.relist.proofs.take_rows.Goals as goal
use Rattle.relist.proofs.take_rows.Goals.{In-Some}

-- a row reads few octets
short : (c : In-Some) → c.in-Some.n ≤ 253
short c =
    read_few _ _ _ _ _ _ _ _ c.loop-i.invariant c.loop-i-test.true _ c.line_end-end.ensures _ _
    c.row_length.ensures _ c.in-Some.is

pub loop-i-init : goal.loop-i-init
loop-i-init c = took_nothing _ _ _ _ c.requires (search rules) refl

pub line_end-end-requires : goal.line_end-end-requires
line_end-end-requires c = c.loop-i.invariant.inside

pub slice_bounds-row_length-count : goal.slice_bounds-row_length-count
slice_bounds-row_length-count c = (line_within _ _ c.loop-i.invariant.inside _ c.line_end-end.ensures).0

pub slice_bounds-row_length-start : goal.slice_bounds-row_length-start
slice_bounds-row_length-start c = (line_within _ _ c.loop-i.invariant.inside _ c.line_end-end.ensures).0

pub slice_bounds-row_length-end : goal.slice_bounds-row_length-end
slice_bounds-row_length-end c = (line_within _ _ c.loop-i.invariant.inside _ c.line_end-end.ensures).1

pub slice_bounds-kinds-end : goal.slice_bounds-kinds-end
slice_bounds-kinds-end c = let inv = c.loop-i.invariant in omega (arith, inv.few, inv.below, inv.room)

pub slice_bounds-row_length-end-in-loop-i : goal.slice_bounds-row_length-end-in-loop-i
slice_bounds-row_length-end-in-loop-i c = kinds_long _ _ _ _ _ _ _ _ c.loop-i.invariant

pub row_length-requires : goal.row_length-requires
row_length-requires c = c.loop-i-test.true

pub bounds-kinds-count : goal.bounds-kinds-count
bounds-kinds-count c = omega (arith, c.loop-i.invariant.few)

pub slice_bounds-contents-end : goal.slice_bounds-contents-end
slice_bounds-contents-end c =
    let k = short (goal.at.slice_bounds-contents-end c).In-Some in
    omega (arith, k, (let z : length c.row_length.new.out ≡ 274 = search rules in z))

pub slice_bounds-lay_parameter-end : goal.slice_bounds-lay_parameter-end
slice_bounds-lay_parameter-end c =
    let k = short (goal.at.slice_bounds-lay_parameter-end c).In-Some in
    sym (length-take-le _ _ (omega (arith, k, (let z : length c.row_length.new.out ≡ 274 = search rules in z))))

pub lay_parameter-size-requires : goal.lay_parameter-size-requires
lay_parameter-size-requires c =
    let n = length-take c.in-Some.n c.row_length.new.out in (
      omega (arith, short (goal.at.lay_parameter-size-requires c).In-Some),
      omega (arith, c.loop-i.invariant.small, c.loop-i.invariant.below),
    )

pub overflow_add-count : goal.overflow_add-count
overflow_add-count c = omega (arith, c.loop-i.invariant.few)

pub loop-i-preserved : goal.loop-i-preserved
loop-i-preserved c =
    took_more _ _ _ _ _ _ _ _ c.loop-i.invariant c.loop-i-test.true _ c.line_end-end.ensures _ _
    c.row_length.ensures _ c.in-Some.is _
    c.kind_at-kind.ensures _ _ c.lay_parameter-size.ensures
    (search rules)

pub loop-i-preserved-in_default : goal.loop-i-preserved-in_default
loop-i-preserved-in_default c =
    took_none _ _ _ _ _ _ _ _ c.loop-i.invariant c.loop-i-test.true _ c.line_end-end.ensures _ _
    c.row_length.ensures c.in_default.is

pub returns : goal.returns
returns c = took_all _ _ _ _ _ _ _ _ c.loop-i.invariant c.loop-i-test.false
