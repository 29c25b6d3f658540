-- `reader::lay_texts`: the texts laid down and those that are left make all texts, and the rest of the area is as it
-- was.
-- Assumes nothing.
use Rattle.rules.specs.Table.{rules_of}
use Rattle.message.specs.Walk.{founds_left}
use Rattle.reader.proofs.Laying.{LaidTexts}
use Rattle.reader.proofs.lay_texts.Given as goal

abbrev pub invariant-loop-found : goal.invariant-loop-found
invariant-loop-found l =
    LaidTexts (rules_of l.book) l.octets l.initial.area (founds_left l.found-iterator) l.used l.area
