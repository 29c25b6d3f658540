-- `relist::take_rows` meets its contract. The loop's invariant: what the rows so far took, and the rows behind them in
-- the text behind that, come to what all rows take. The measure is the rows left.
-- Assumes nothing.
use Rattle.relist.proofs.Rows.{AfterRows}
use Rattle.relist.proofs.take_rows.Given as goal

abbrev pub invariant-loop-i : goal.invariant-loop-i
invariant-loop-i l = AfterRows l.text l.first l.area l.kinds l.at l.count l.size l.i
