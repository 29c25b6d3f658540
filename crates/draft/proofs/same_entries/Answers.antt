-- `draft::same_entries` meets its contract: entry by entry.
-- Assumes nothing.
use native.Mathlib.Omega.{arith}
use Rattle.std.proofs.Common.{rules}
use Rattle.draft.proofs.Comparing.{all_agree, entry_agrees, entry_differs}
use Rattle.draft.proofs.same_entries.Goals as goal

pub loop-i-preserved : goal.loop-i-preserved
loop-i-preserved c =
    entry_agrees _ _ _ _ _ c.requires (search rules) (search rules) _ c.loop-i.invariant _ _
    c.loop-i-test.true c.same_entry.ensures c.if-not-same_entry.false

pub returns-then-not-same_entry : goal.returns-then-not-same_entry
returns-then-not-same_entry c =
    entry_differs _ _ _ _ _ c.requires (search rules) (search rules) _ c.loop-i.invariant _ _
    c.loop-i-test.true c.same_entry.ensures c.if-not-same_entry.true

pub returns : goal.returns
returns c = all_agree _ _ _ _ _ c.requires (search rules) (search rules) _ c.loop-i.invariant (omega arith)
