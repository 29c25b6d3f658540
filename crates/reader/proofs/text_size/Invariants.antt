-- `reader::text_size`: what was summed up and the texts that are left make the whole.
-- Assumes nothing.
use Rattle.rules.specs.Table.{rules_of}
use Rattle.message.specs.Walk.{founds_left}
use Rattle.reader.proofs.Laying.{Sized}
use Rattle.reader.proofs.text_size.Given as goal

abbrev pub invariant-loop-found : goal.invariant-loop-found
invariant-loop-found l = Sized (rules_of l.book) l.octets (founds_left l.found-iterator) l.size
