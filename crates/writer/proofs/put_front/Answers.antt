-- `writer::put_front` meets its contract. The loop's invariant: i entries are laid down behind the first two octets
-- of the output.
-- Assumes nothing.
use Rattle.std.proofs.Common.{arith, length-set}
use Rattle.draft.specs.declared.Entry.{Entry}
use Rattle.draft.specs.declared.Value.TheVariants.{Date}
use Rattle.writer.proofs.Laying.{wrote_none, wrote_length, wrote_room, wrote_small, wrote_asked, wrote_more, wrote_end}
use Rattle.writer.proofs.put_front.Goals as goal

abbrev any : Entry
any = record { kind = 0; value = Date 0 0 0 0 }

pub bounds-out-0 : goal.bounds-out-0
bounds-out-0 c = omega (arith, c.requires.fits)

pub bounds-out-1 : goal.bounds-out-1
bounds-out-1 c = simp length-set (omega (arith, c.requires.fits))

pub loop-e-init : goal.loop-e-init
loop-e-init c = wrote_none _ _ _ (simp length-set (omega (arith, c.requires.fits)))

pub slice_bounds-put_entry-count : goal.slice_bounds-put_entry-count
slice_bounds-put_entry-count c =
    omega (
      arith,
      wrote_room _ _ c.args.out.now _ c.requires _ _ _
          c.loop-e.invariant any c.loop-e-test.true,
    )

pub slice_bounds-put_entry-start : goal.slice_bounds-put_entry-start
slice_bounds-put_entry-start c =
    omega (
      arith,
      wrote_room _ _ c.args.out.now _ c.requires _ _ _
          c.loop-e.invariant any c.loop-e-test.true,
    )

pub put_entry-at-requires : goal.put_entry-at-requires
put_entry-at-requires c =
    wrote_asked _ _ c.args.out.now _ c.requires _ _ _
    c.loop-e.invariant _ c.loop-e-test.true

pub overflow_add-at : goal.overflow_add-at
overflow_add-at c =
    omega (
      arith,
      wrote_small _ _ c.args.out.now _ c.requires _ _ _
          c.loop-e.invariant any c.loop-e-test.true,
      c.put_entry-at.ensures.1,
    )

pub loop-e-preserved : goal.loop-e-preserved
loop-e-preserved c =
    wrote_more _ _ c.args.out.now _ c.requires _ _ _ c.loop-e.invariant _
    c.loop-e-test.true _ _ c.put_entry-at.ensures c.put_entry-at.auto.out

pub shape_of-out : goal.shape_of-out
shape_of-out c =
    wrote_length _ _ c.args.out.now _ c.requires _ _ _ c.loop-e.invariant

pub returns : goal.returns
returns c =
    wrote_end _ _ c.args.out.now _ c.requires _ _ _ c.loop-e.invariant (omega arith)
