-- `writer::put_front` meets its contract. The loop's invariant: i entries are laid down behind the first two octets
-- of the output.
-- Assumes nothing.
use Rattle.writer.proofs.Laying.{Wrote}
use Rattle.writer.proofs.put_front.Given as goal

abbrev pub invariant-loop-e : goal.invariant-loop-e
invariant-loop-e l = Wrote l.e-items l.texts l.initial.out l.out l.at l.e-index
