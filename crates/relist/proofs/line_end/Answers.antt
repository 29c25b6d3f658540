-- `relist::line_end` meets its contract: behind the first line end, or where the text ends.
-- Assumes nothing.
use Rattle.std.proofs.Common.{sym, ◌∙◌}
use Rattle.rules.proofs.Laying.{rest_whole}
use Rattle.relist.proofs.Reading.{line_ended, line_unended}
use Rattle.relist.proofs.line_end.Goals as goal

pub returns-in-Some : goal.returns-in-Some
returns-in-Some c =
    line_ended c.args.text.now c.args.at c.requires _ (rest_whole c.args.at c.args.text.now)
    _ (sym c.place_of.ensures ∙ c.in-Some.is)

pub returns-in-None : goal.returns-in-None
returns-in-None c =
    line_unended c.args.text.now c.args.at c.requires _ (rest_whole c.args.at c.args.text.now)
    (sym c.place_of.ensures ∙ c.in-None.is)
