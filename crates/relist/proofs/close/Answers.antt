-- `relist::close` meets its contract: no value line, no last line, something behind it, or the end.
-- Assumes nothing.
use Rattle.std.proofs.Common.{ap, ◌∙◌, arith}
use Rattle.rules.specs.Pairwise.{same_octets}
use Rattle.rules.proofs.Telling.{telling}
use Rattle.relist.specs.Relist.{closed}
use Rattle.relist.proofs.Reading.{line_within, line_part, rest_long}
use Rattle.relist.proofs.close.Goals as goal

pub slice_bounds-says_end-end : goal.slice_bounds-says_end-end
slice_bounds-says_end-end c = (line_within _ _ c.requires.0 _ c.line_end-end.ensures).1

pub returns-then-not-says_end : goal.returns-then-not-says_end
unfolding closed
returns-then-not-says_end c =
    let s = c.says_end.ensures ∙ ap (same_octets _) (line_part _ _ c.requires.0 _ c.line_end-end.ensures) in
    grind (arith, telling, s)

pub returns-then-end-text : goal.returns-then-end-text
unfolding closed
returns-then-end-text c =
    let s = c.says_end.ensures ∙ ap (same_octets _) (line_part _ _ c.requires.0 _ c.line_end-end.ensures) in
    grind (arith, telling, s, rest_long _ _ c.requires.0 _ c.line_end-end.ensures)

pub returns : goal.returns
unfolding closed
returns c =
    let s = c.says_end.ensures ∙ ap (same_octets _) (line_part _ _ c.requires.0 _ c.line_end-end.ensures) in
    grind (arith, telling, s, rest_long _ _ c.requires.0 _ c.line_end-end.ensures)
