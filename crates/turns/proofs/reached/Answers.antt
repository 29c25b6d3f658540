-- `turns::reached` meets its contract.
-- Assumes nothing.
use Rattle.std.proofs.Common.{◌<◌, get_or, ◌∙◌, arith}
use Rattle.rules.specs.Tests.{◌≤?◌, ◌and◌, ◌or◌}
use Rattle.rules.specs.Contents.{within, in_set, digit}
use Rattle.rules.specs.OctetRows.{bit, kinds_of}
use Rattle.rules.proofs.Table.{tabled}
use Rattle.rules.proofs.OctetRows.{kind_rows, rowed}
use Rattle.rules.proofs.Asked.{asked_ok}
use Rattle.rules.proofs.Returns.{via}
use Rattle.rules.proofs.Standing.{stood_more, stood_wrong, stood_all}
use Rattle.turns.proofs.reached.Goals as goal

pub loop-i-preserved : goal.loop-i-preserved
unfolding kind_rows tabled kinds_of bit digit within in_set ◌or◌ ◌and◌ ◌≤?◌
loop-i-preserved c =
    let x = get_or c.args.v.now c.loop-i.i 0 in
    let octet : x < 256 = omega (arith, c.type_inv.v c.loop-i.i) in
    stood_more _ _ _ _ _ c.loop-i-test.true _
    (via _ _ _ (c.content_ok.ensures ∙ asked_ok _ _ _ _ _ x (λ _. rowed.row x octet)) c.if-not-content_ok.false)
    c.remember-memory.ensures c.loop-i.invariant

pub returns-then-not-content_ok : goal.returns-then-not-content_ok
unfolding kind_rows tabled kinds_of bit digit within in_set ◌or◌ ◌and◌ ◌≤?◌
returns-then-not-content_ok c =
    let x = get_or c.args.v.now c.loop-i.i 0 in
    let octet : x < 256 = omega (arith, c.type_inv.v c.loop-i.i) in
    stood_wrong _ _ _ _ _ c.loop-i-test.true
    (via _ _ _ (c.content_ok.ensures ∙ asked_ok _ _ _ _ _ x (λ _. rowed.row x octet)) c.if-not-content_ok.true)
    c.loop-i.invariant

pub returns : goal.returns
returns c = omega (arith, stood_all _ _ _ _ _ (omega arith) c.loop-i.invariant)
