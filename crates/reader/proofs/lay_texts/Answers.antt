-- `reader::lay_texts` meets its contract: at first all are left.
-- Assumes nothing.
use Rattle.std.proofs.Common.{ap, ◌∙◌}
use Rattle.message.specs.Walk.{founds_left}
use Rattle.reader.proofs.Laying.{sized_inside, sized_end, laid_first, laid_room, laid_more, laid_end}
use Rattle.reader.proofs.lay_texts.Goals as goal

pub loop-found-init : goal.loop-found-init
loop-found-init c =
    laid_first _ _ _ c.requires _
    (ap founds_left c.into_iter-found-iterator.ensures.into_iter_gives ∙ c.new-found-items.ensures)

pub text_of-text-requires : goal.text_of-text-requires
text_of-text-requires c = sized_inside _ _ _ _ _ c.in-Some.ensures.steps _ c.loop-found.invariant.sized

pub lay_text-requires : goal.lay_text-requires
lay_text-requires c =
    laid_room _ _ _ c.requires _ _ _ c.in-Some.ensures.steps _ _ c.loop-found.invariant _ c.text_of-text.ensures

pub loop-found-preserved : goal.loop-found-preserved
loop-found-preserved c =
    laid_more _ _ _ c.requires _ _ _ c.in-Some.ensures.steps _ _ c.loop-found.invariant _ c.text_of-text.ensures _
    c.lay_text.ensures

pub returns-clause-size : goal.returns-clause-size
returns-clause-size c = sized_end _ _ _ c.in-None.ensures.steps.0 _ c.loop-found.invariant.sized

pub returns-clause-area : goal.returns-clause-area
returns-clause-area c = laid_end _ _ _ c.requires _ c.in-None.ensures.steps.0 _ _ c.loop-found.invariant
