-- `firmware::lay_entries` meets its contract. The loop's invariant: the record is that of the entries taken so far, and
-- the texts laid down are theirs.
-- Assumes nothing.
use Rattle.rules.specs.Table.{rules_of}
use Rattle.message.specs.Walk.{founds_left}
use Rattle.firmware.proofs.DraftRecord.{Recorded}
use Rattle.firmware.proofs.drafts.lay_entries.Given as goal

abbrev pub invariant-loop-found : goal.invariant-loop-found
invariant-loop-found l =
    Recorded (rules_of l.book) l.octets l.initial.texts (founds_left l.found-iterator) l.count l.used l.cells l.texts
