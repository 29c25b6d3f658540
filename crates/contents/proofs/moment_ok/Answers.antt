-- `contents::moment_ok` meets its contract: a date, and a pair of digits for the seconds.
-- Assumes nothing.
use mathlib.Core.Path.{refl, ◌∙◌}
use native.Mathlib.Omega.{arith}
use Rattle.rules.proofs.AtIndex.{date_front, at_pair, past_date}
use Rattle.contents.proofs.moment_ok.Goals as goal

pub returns-in-0-to-7 : goal.returns-in-0-to-7
returns-in-0-to-7 c = c.date_ok.ensures ∙ date_front _ _ _ _ _ _ (omega arith)

pub returns-in-8-to-9 : goal.returns-in-8-to-9
returns-in-8-to-9 c = c.pair_ok.ensures ∙ at_pair _ _ 2 _ _ _ _ _ _ refl (omega arith) (omega arith)

pub returns-in_default : goal.returns-in_default
returns-in_default c = past_date _ _ _ _ _ (omega arith) (omega arith)
