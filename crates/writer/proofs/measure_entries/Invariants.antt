-- `writer::measure_entries` meets its contract. The loop's invariant: the entries before i are legal and take the
-- octets counted, so those from i on decide.
-- Assumes nothing.
use Rattle.std.proofs.Common.{◌*◌, ◌≤◌}
use Rattle.rules.specs.Table.{rules_of}
use Rattle.writer.proofs.Entries.{Measured}
use Rattle.writer.proofs.measure_entries.Given as goal

abbrev pub invariant-loop-i : goal.invariant-loop-i
invariant-loop-i l = record {
  small : l.size ≤ 257 * l.i;
  measured : Measured (rules_of l.book) l.texts l.entries l.size l.i;
}
