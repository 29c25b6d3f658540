-- `desk::contents_of` meets its contract: the octets of the part that counts.
-- Assumes nothing.
use mathlib.Core.Path.{sym, ◌∙◌}
use native.Mathlib.Omega.{arith}
use Rattle.message.proofs.Places.{counted_inside}
use Rattle.desk.proofs.Counted.{counts_none, counts_slice}
use borrow.Author.Rules.{rules}
use Rattle.desk.proofs.contents_of.Goals as goal

pub overflow_add-end : goal.overflow_add-end
overflow_add-end c =
    let h = counted_inside _ _ _ _ _ (sym c.counted.ensures ∙ c.in_ok-start.was) in
    search (rules, h)

pub slice_bounds-result-end : goal.slice_bounds-result-end
slice_bounds-result-end c =
    let h = counted_inside _ _ _ _ _ (sym c.counted.ensures ∙ c.in_ok-start.was) in
    omega (arith, h)

pub returns-clause-some : goal.returns-clause-some
returns-clause-some c = counts_slice _ _ _ _ c.counted.ensures _ _ c.in_ok-start.was

pub returns-in_err-start-clause-none : goal.returns-in_err-start-clause-none
returns-in_err-start-clause-none c =
    let h = counts_none _ _ _ _ c.counted.ensures c.in_err-start.was in
    let none = c.from_residual.ensures in
    search (rules, h, none)
