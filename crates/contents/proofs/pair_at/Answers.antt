-- `contents::pair_at` meets its contract: one octet at most is left, or two are there.
-- Assumes nothing.
use mathlib.Core.Path.{◌∙◌}
use Rattle.rules.proofs.Standing.{no_pair, pair_there}
use native.Mathlib.Omega.{arith}
use borrow.Author.Rules.{rules}
use Rattle.contents.proofs.pair_at.Goals as goal

pub returns-else-at-v : goal.returns-else-at-v
returns-else-at-v c =
    grind (arith, no_pair (c.args.range) c.args.v.now c.args.at c.if-at-v.false)

pub returns-then-at-v : goal.returns-then-at-v
returns-then-at-v c =
    let a = c.args in
    c.two_digits.ensures ∙ pair_there a.range a.v.now a.at (search rules)
