-- `desk::places_fit` meets its contract.
-- Assumes nothing.
use mathlib.Core.Path.{◌≡◌}
use mathlib.Core.Bool.{true, false}
use native.Mathlib.Omega.{arith}
use lib.ListN.{length}
use Rattle.rules.proofs.Returns.{via}
use Rattle.desk.specs.References.{place_count}
use Rattle.desk.proofs.Holding.{behind, fit_more, fit_fails, fit_all}
use borrow.Author.Rules.{rules}
use Rattle.desk.proofs.places_fit.Goals as goal

pub loop-i-preserved : goal.loop-i-preserved
loop-i-preserved c =
    let l : length c.args.places ≡ place_count = search rules in
    fit_more c.args.places c.loop-i.i c.loop-i.invariant (omega (arith, l, c.loop-i-test.true))
    (behind c.args.places c.loop-i.i true l (via _ _ _ c.may_stand.ensures c.if-not-may_stand.false))

pub returns-then-not-may_stand : goal.returns-then-not-may_stand
returns-then-not-may_stand c =
    let l : length c.args.places ≡ place_count = search rules in
    fit_fails c.args.places c.loop-i.i c.loop-i.invariant (omega (arith, l, c.loop-i-test.true))
    (behind c.args.places c.loop-i.i false l (via _ _ _ c.may_stand.ensures c.if-not-may_stand.true))

pub returns : goal.returns
returns c =
    let l : length c.args.places ≡ place_count = search rules in
    fit_all c.args.places c.loop-i.i c.loop-i.invariant (omega (arith, l))
