-- `contents::duration_ok` meets its contract: each pair of digits by its range; past the last any octet may stand.
-- Assumes nothing.
use mathlib.Core.Path.{refl, ◌∙◌}
use native.Mathlib.Omega.{arith}
use Rattle.rules.proofs.AtIndex.{pair_within, pair_late_by}
use Rattle.contents.proofs.duration_ok.Goals as goal

pub returns-in-0-to-1 : goal.returns-in-0-to-1
returns-in-0-to-1 c = c.pair_ok.ensures ∙ pair_within _ _ 0 _ _ _ _ _ _ refl (omega arith) (omega arith)

pub returns-in-2-to-3 : goal.returns-in-2-to-3
returns-in-2-to-3 c = c.pair_ok-in-2-to-3.ensures ∙ pair_within _ _ 1 _ _ _ _ _ _ refl (omega arith) (omega arith)

pub returns-in-4-to-5 : goal.returns-in-4-to-5
returns-in-4-to-5 c = c.pair_ok-in-4-to-5.ensures ∙ pair_within _ _ 2 _ _ _ _ _ _ refl (omega arith) (omega arith)

pub returns-in_default : goal.returns-in_default
returns-in_default c = pair_late_by _ _ _ _ _ (omega arith) (omega arith)
