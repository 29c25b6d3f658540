-- `reader::text_size` meets its contract: at first all are left.
-- Assumes nothing.
use Rattle.std.proofs.Common.{length, ap, ◌∙◌, arith}
use Rattle.message.specs.Walk.{founds_left}
use Rattle.reader.proofs.Laying.{sized_first, sized_inside, sized_more, sized_within, sized_end}
use Rattle.reader.proofs.text_size.Goals as goal

pub loop-found-init : goal.loop-found-init
loop-found-init c =
    sized_first _ _ _ (ap founds_left c.into_iter-found-iterator.ensures.into_iter_gives ∙ c.new-found-items.ensures)

pub text_of-requires : goal.text_of-requires
text_of-requires c = sized_inside _ _ _ _ _ c.in-Some.ensures.steps _ c.loop-found.invariant

pub overflow_add-size : goal.overflow_add-size
overflow_add-size c =
    omega (
      arith,
      sized_within _ _ _ _ _ c.in-Some.ensures.steps _ c.loop-found.invariant _ (ap length c.text_of.ensures),
    )

pub loop-found-preserved : goal.loop-found-preserved
loop-found-preserved c =
    sized_more _ _ _ _ _ c.in-Some.ensures.steps _ c.loop-found.invariant _ (ap length c.text_of.ensures)

pub returns : goal.returns
returns c = sized_end _ _ _ c.in-None.ensures.steps.0 _ c.loop-found.invariant
