-- `contents::terminal_along` meets its contract: the selector, then its code or its digits.
-- Assumes nothing.
use mathlib.Core.Bool.{true, false}
use Prim.Native.Nat.{◌+◌, ◌≤◌}
use native.Mathlib.Omega.{arith}
use lib.ListN.{length, drop, length-drop}
use Rattle.rules.specs.Tests.{pick}
use Rattle.rules.specs.ContentJudge.{text_judge}
use Rattle.rules.specs.OctetRows.{numbers, kind_set}
use Rattle.rules.proofs.Returns.{via, yes_le, no_le}
use Rattle.rules.proofs.Standing.{passing_most}
use Rattle.rules.proofs.Marked.{behind_first, connection_two, terminal_stops, terminal_digits, terminal_code}
use borrow.Author.Rules.{rules}
use Rattle.contents.proofs.terminal_along.Goals as goal

pub bounds-v-1 : goal.bounds-v-1
bounds-v-1 c =
    omega (
      arith,
      connection_two _ _ (via _ _ _ c.selector_ok.ensures c.if-not-selector_ok.false) c.in-1.is,
    )

pub kind_along-requires : goal.kind_along-requires
kind_along-requires c = (c.requires.0, numbers)

pub overflow_add-result : goal.overflow_add-result
overflow_add-result c =
    let v = c.args.v.now in
    let rest = rw (behind_first v c.requires.1) at c.kind_along.ensures in
    let most = passing_most (text_judge (kind_set 2)) (length (drop 1 v)) 0 0 (drop 1 v) in
    let h : 1 + c.kind_along.result ≤ length v =
    omega (arith, c.requires.1, rest, most, length-drop 1 v) in
    search rules

pub returns-in-1 : goal.returns-in-1
unfolding pick
returns-in-1 c =
    let v = c.args.v.now in
    let told = via _ _ _ c.selector_ok.ensures c.if-not-selector_ok.false in
    terminal_code v (connection_two _ _ told c.in-1.is) told c.in-1.is true
    (yes_le _ _ c.if-v-le7.true)

pub returns-in-1-2 : goal.returns-in-1-2
unfolding pick
returns-in-1-2 c =
    let v = c.args.v.now in
    let told = via _ _ _ c.selector_ok.ensures c.if-not-selector_ok.false in
    terminal_code v (connection_two _ _ told c.in-1.is) told c.in-1.is false
    (no_le _ _ c.if-v-le7.false)

pub returns-in_default : goal.returns-in_default
returns-in_default c =
    let v = c.args.v.now in
    terminal_digits v c.requires.1 (via _ _ _ c.selector_ok.ensures c.if-not-selector_ok.false) (omega arith) _
    (rw (behind_first v c.requires.1) at c.kind_along.ensures)

pub returns-then-not-selector_ok : goal.returns-then-not-selector_ok
returns-then-not-selector_ok c =
    terminal_stops c.args.v.now c.requires.1
    (via _ _ _ c.selector_ok.ensures c.if-not-selector_ok.true)
