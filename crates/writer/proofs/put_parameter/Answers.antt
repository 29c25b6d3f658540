-- `writer::put_parameter` meets its contract: the contents are laid down behind two octets.
-- Assumes nothing.
use Rattle.std.proofs.Common.{◌-◌, length, ◌∙◌, arith, length-drop, length-set, length-take}
use borrow.Rule.Slice.PartMut.{same_len_mid}
use Rattle.writer.proofs.Laying.{opened, opened_long, parameter_laid}
use Rattle.writer.proofs.put_parameter.Goals as goal

pub bounds-out-1 : goal.bounds-out-1
bounds-out-1 c = simp length-set (omega arith)

pub slice_bounds-put_both-count : goal.slice_bounds-put_both-count
slice_bounds-put_both-count c = simp length-set (omega arith)

pub slice_bounds-put_both-start : goal.slice_bounds-put_both-start
slice_bounds-put_both-start c = simp length-set (omega arith)

pub put_both-requires : goal.put_both-requires
put_both-requires c = simp (length-take, length-drop, length-set) (omega arith)

pub shape_of-out : goal.shape_of-out
shape_of-out c =
    let v = opened c.args.out.now c.args.head.now c.args.text.now c.args.kind in
    same_len_mid 2 (length v - 2) v c.put_both.new.out c.put_both.auto.out
    ∙ opened_long c.args.out.now c.args.head.now c.args.text.now c.args.kind

pub returns : goal.returns
returns c =
    parameter_laid c.args.out.now c.args.head.now c.args.text.now c.args.kind _
    c.requires.0 c.put_both.ensures
