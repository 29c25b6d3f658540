-- `contents::date_ok` meets its contract: the month as a pair of digits, the day by the days that are left, then each
-- pair of digits by its range; past the last any octet may stand.
-- Assumes nothing.
use mathlib.Core.Path.{refl, ◌∙◌}
use native.Mathlib.Omega.{arith}
use Rattle.rules.proofs.AtIndex.{at_month, at_day_tens, at_day_ones, at_pair, past_date}
use Rattle.contents.proofs.date_ok.Goals as goal

pub returns-in-0-to-1 : goal.returns-in-0-to-1
returns-in-0-to-1 c = c.pair_ok.ensures ∙ at_month _ _ _ _ _ (omega arith)

pub returns-in-2 : goal.returns-in-2
returns-in-2 c = c.tens_ok.ensures ∙ at_day_tens _ _ _ _ _ c.in-2.is

pub returns-in-3 : goal.returns-in-3
returns-in-3 c = c.day_ok.ensures ∙ at_day_ones _ _ _ _ _ c.in-3.is

pub returns-in-4-to-5 : goal.returns-in-4-to-5
returns-in-4-to-5 c = c.pair_ok-in-4-to-5.ensures ∙ at_pair _ _ 0 _ _ _ _ _ _ refl (omega arith) (omega arith)

pub returns-in-6-to-7 : goal.returns-in-6-to-7
returns-in-6-to-7 c = c.pair_ok-in-6-to-7.ensures ∙ at_pair _ _ 1 _ _ _ _ _ _ refl (omega arith) (omega arith)

pub returns-in_default : goal.returns-in_default
returns-in_default c = past_date _ _ _ _ _ (omega arith) (omega arith)
