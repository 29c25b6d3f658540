-- `contents::pair_along` meets its contract: two octets that make a number of the range stand; else none is left, or
-- the tens decide.
-- Assumes nothing.
use mathlib.Core.Path.{sym, ◌∙◌}
use mathlib.Core.Bool.{true, false}
use native.Mathlib.Nat.{add-zero}
use Prim.Native.Nat.{◌<◌}
use native.Mathlib.Omega.{arith}
use lib.ListN.{get_or}
use Rattle.rules.specs.Tests.{pick}
use Rattle.rules.proofs.Returns.{via}
use Rattle.rules.proofs.OctetRows.{tens_row}
use Rattle.rules.proofs.Standing.{none_left, pair_done, tens_left}
use borrow.Author.Rules.{rules}
use Rattle.contents.proofs.pair_along.Goals as goal

pub returns-then-pair_at : goal.returns-then-pair_at
returns-then-pair_at c = pair_done _ _ _ _ c.pair_at.ensures c.if-pair_at.true

pub returns-then-v-at : goal.returns-then-v-at
returns-then-v-at c = none_left _ _ _ c.if-v-at.true

pub overflow_cast-octet : goal.overflow_cast-octet
overflow_cast-octet c =
    let x = get_or c.args.v.now c.args.at 0 in
    let octet : x < 256 = omega (arith, c.type_inv.v c.args.at) in search rules

pub bounds-kinds-x : goal.bounds-kinds-x
bounds-kinds-x c =
    let x = get_or c.args.v.now c.args.at 0 in
    let octet : x < 256 = omega (arith, c.type_inv.v c.args.at) in
    omega (arith, octet, c.requires.0.long)

pub returns-then-tens_ok : goal.returns-then-tens_ok
unfolding pick
returns-then-tens_ok c =
    let x = get_or c.args.v.now c.args.at 0 in
    let octet : x < 256 = omega (arith, c.type_inv.v c.args.at) in
    tens_left _ _ _ (search rules) _ c.pair_at.ensures c.if-pair_at.false true
    (via _ _ _ (c.tens_ok.ensures ∙ tens_row x _ _ (c.requires.0.row x octet)) c.if-tens_ok.true)

pub returns-else-tens_ok : goal.returns-else-tens_ok
unfolding pick
returns-else-tens_ok c =
    let x = get_or c.args.v.now c.args.at 0 in
    let octet : x < 256 = omega (arith, c.type_inv.v c.args.at) in
    sym (add-zero _) ∙ tens_left _ _ _ (search rules) _ c.pair_at.ensures c.if-pair_at.false false
    (via _ _ _ (c.tens_ok.ensures ∙ tens_row x _ _ (c.requires.0.row x octet)) c.if-tens_ok.false)
