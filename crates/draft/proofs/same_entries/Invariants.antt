-- `draft::same_entries` meets its contract. The loop's invariant: the entries before i agree, so those from i on
-- decide.
-- Assumes nothing.
use Rattle.draft.proofs.Comparing.{Left}
use Rattle.draft.proofs.same_entries.Given as goal

abbrev pub invariant-loop-i : goal.invariant-loop-i
invariant-loop-i l = Left l.s l.t l.a.count l.a.entries l.b.entries l.i
