-- `relist::line_length` meets its contract: too short, too long, not what its contents print, or the row's.
-- Assumes nothing.
use Rattle.std.proofs.Common.{ap, ◌∙◌, arith}
use Rattle.rules.specs.Table.{rules_of, class_of}
use Rattle.rules.specs.declared.Book.TheVariants.{PresentLenient}
use Rattle.listing.specs.Listing.{row_at}
use Rattle.listing.proofs.Keys.{key_short}
use Rattle.relist.specs.Relist.{row_contents}
use Rattle.relist.specs.Reading.{Holds}
use Rattle.relist.proofs.Reading.{held_long, not_shorter, not_longer, read_none, read_value, read_says, read_not}
use Rattle.relist.proofs.line_length.Goals as goal
use Rattle.relist.proofs.line_length.Goals.{After-lay_contents-n}

-- the area holds the contents that the row reads off the line
contents : (c : After-lay_contents-n) →
    Holds (row_contents (rules_of PresentLenient) (row_at c.args.i) c.args.line.now) c.lay_contents-n.new.out
    c.lay_contents-n.result
contents c =
    read_value (rules_of PresentLenient) _ _ _ _ c.key_length-start.ensures _
    (c.class_of-class.ensures ∙ ap (class_of (rules_of PresentLenient)) c.kind_at.ensures) _
    c.lay_contents-n.ensures

pub overflow_add-start : goal.overflow_add-start
overflow_add-start c = omega (arith, c.key_length-start.ensures, key_short _ c.requires)

pub returns-then-line-start : goal.returns-then-line-start
returns-then-line-start c =
    read_none _ _ _ _ (λ s. not_shorter _ _ _ s (omega (arith, c.key_length-start.ensures, c.if-line-start.true)))

pub returns-then-end-start-gt-VALUE : goal.returns-then-end-start-gt-VALUE
returns-then-end-start-gt-VALUE c =
    read_none _ _ _ _ (λ s. not_longer _ _ _ s (omega (arith, c.key_length-start.ensures, c.if-end-start-gt-VALUE.true)))

pub slice_bounds-says-end : goal.slice_bounds-says-end
slice_bounds-says-end c = held_long _ _ _ c.lay_contents-n.ensures

pub returns-then-says : goal.returns-then-says
returns-then-says c =
    read_says _ c.requires c.args.line.now _ _ (contents (goal.at.returns-then-says c).After-lay_contents-n) _
    c.says.ensures c.if-says.true

pub returns-else-says : goal.returns-else-says
returns-else-says c =
    read_not _ c.requires c.args.line.now _ _ (contents (goal.at.returns-else-says c).After-lay_contents-n) _
    c.says.ensures c.if-says.false
