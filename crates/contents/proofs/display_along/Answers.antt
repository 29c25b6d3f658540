-- `contents::display_along` meets its contract: the first octet, then characters as far as they go.
-- Assumes nothing.
use Prim.Native.Nat.{◌+◌, ◌≤◌}
use native.Mathlib.Omega.{arith}
use lib.ListN.{length, drop, length-drop}
use Rattle.rules.specs.ContentJudge.{text_judge}
use Rattle.rules.specs.OctetRows.{names, kind_set}
use Rattle.rules.proofs.Returns.{via}
use Rattle.rules.proofs.Standing.{passing_most}
use Rattle.rules.proofs.Marked.{behind_first, display_stops, display_goes}
use borrow.Author.Rules.{rules}
use Rattle.contents.proofs.display_along.Goals as goal

pub kind_along-requires : goal.kind_along-requires
kind_along-requires c = (c.requires.0, names)

pub overflow_add-result : goal.overflow_add-result
overflow_add-result c =
    let v = c.args.v.now in
    let rest = rw (behind_first v c.requires.1) at c.kind_along.ensures in
    let most = passing_most (text_judge (kind_set 4)) (length (drop 1 v)) 0 0 (drop 1 v) in
    let h : 1 + c.kind_along.result ≤ length v =
    omega (arith, c.requires.1, rest, most, length-drop 1 v) in
    search rules

pub returns-then-mark_ok : goal.returns-then-mark_ok
returns-then-mark_ok c =
    let v = c.args.v.now in
    display_goes v c.requires.1 (via _ _ _ c.mark_ok.ensures c.if-mark_ok.true) _
    (rw (behind_first v c.requires.1) at c.kind_along.ensures)

pub returns-else-mark_ok : goal.returns-else-mark_ok
returns-else-mark_ok c = display_stops c.args.v.now c.requires.1 (via _ _ _ c.mark_ok.ensures c.if-mark_ok.false)
