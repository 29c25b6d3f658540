-- `caption::entry_for` meets its contract. The loop's invariant: the search from the line that begins here finds what
-- the whole search finds. The measure is what is left of the directory. Assumes nothing.
use mathlib.Core.Path.{refl, sym, ◌∙◌}
use native.Mathlib.Omega.{arith}
use Rattle.rules.proofs.Laying.{rest_whole}
use Rattle.caption.proofs.Cutting.{entry_end, caller_inside, entry_here, entry_on}
use Rattle.caption.proofs.entry_for.Goals as goal

pub loop-at-init : goal.loop-at-init
loop-at-init c = refl

pub overflow_sub-result : goal.overflow_sub-result
overflow_sub-result c =
    let rest = rest_whole c.loop-at.at c.args.directory.now in
    let named = sym c.is_for.ensures ∙ c.if-is_for.true in
    omega (arith, caller_inside _ _ _ c.loop-at-test.true _ rest _ c.line_of-line.ensures named)

pub overflow_sub-result-then-is_for : goal.overflow_sub-result-then-is_for
overflow_sub-result-then-is_for c =
    let rest = rest_whole c.loop-at.at c.args.directory.now in
    let named = sym c.is_for.ensures ∙ c.if-is_for.true in
    omega (arith, caller_inside _ _ _ c.loop-at-test.true _ rest _ c.line_of-line.ensures named)

pub returns-then-is_for : goal.returns-then-is_for
returns-then-is_for c =
    let rest = rest_whole c.loop-at.at c.args.directory.now in
    let named = sym c.is_for.ensures ∙ c.if-is_for.true in
    sym (entry_here _ _ _ c.loop-at-test.true _ rest _ c.line_of-line.ensures named)
    ∙ c.loop-at.invariant

pub loop-at-preserved : goal.loop-at-preserved
loop-at-preserved c =
    let rest = rest_whole c.loop-at.at c.args.directory.now in
    let named = sym c.is_for.ensures ∙ c.if-is_for.false in
    sym (entry_on _ _ _ c.loop-at-test.true _ rest _ c.line_of-line.ensures named)
    ∙ c.loop-at.invariant

pub returns : goal.returns
returns c = sym (entry_end _ _ _ c.loop-at-test.false) ∙ c.loop-at.invariant
