-- `contents::two_digits` meets its contract: two digits by their rows, and their number within the range.
-- Assumes nothing.
use mathlib.Core.Path.{◌∙◌}
use native.Mathlib.Omega.{arith}
use Rattle.rules.proofs.OctetRows.{digit_told, digit_least, digit_most, two_told, no_ones, no_tens}
use borrow.Author.Rules.{rules}
use Rattle.contents.proofs.two_digits.Goals as goal

pub overflow_sub-a : goal.overflow_sub-a
overflow_sub-a c =
    let tens =
    digit_told _ _ _ _ (c.requires.row _ (omega arith)) c.admits.ensures
    c.if-not-admits.false in
    digit_least _ tens

pub overflow_mul-a : goal.overflow_mul-a
overflow_mul-a c =
    let tens =
    digit_told _ _ _ _ (c.requires.row _ (omega arith)) c.admits.ensures
    c.if-not-admits.false in
    let most = digit_most _ tens in
    search rules

pub overflow_sub-b : goal.overflow_sub-b
overflow_sub-b c =
    let ones = digit_told _ _ _ _ (c.requires.row _ (omega arith)) c.admits-2.ensures c.if-admits.true in
    digit_least _ ones

pub overflow_add-a : goal.overflow_add-a
overflow_add-a c =
    let tens =
    digit_told _ _ _ _ (c.requires.row _ (omega arith)) c.admits.ensures
    c.if-not-admits.false in
    let ones = digit_told _ _ _ _ (c.requires.row _ (omega arith)) c.admits-2.ensures c.if-admits.true in
    let most-tens = digit_most _ tens in
    let most-ones = digit_most _ ones in
    search rules

pub returns-then-admits : goal.returns-then-admits
returns-then-admits c =
    let tens =
    digit_told _ _ _ _ (c.requires.row _ (omega arith)) c.admits.ensures
    c.if-not-admits.false in
    let ones = digit_told _ _ _ _ (c.requires.row _ (omega arith)) c.admits-2.ensures
    c.if-admits.true in
    two_told _ _ _ _ _ tens ones c.among.ensures

pub returns-else-admits : goal.returns-else-admits
returns-else-admits c = c.if-admits.false ∙ no_ones _ _ _ _ (digit_told _ _ _ _ (c.requires.row _ (omega arith)) c.admits-2.ensures c.if-admits.false)

pub returns-then-not-admits : goal.returns-then-not-admits
returns-then-not-admits c = no_tens _ _ _ _ (digit_told _ _ _ _ (c.requires.row _ (omega arith)) c.admits.ensures c.if-not-admits.true)
