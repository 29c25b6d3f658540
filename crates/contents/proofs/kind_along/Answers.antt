-- `contents::kind_along` meets its contract.
-- Assumes nothing.
use mathlib.Core.Path.{◌∙◌, sym}
use Prim.Native.Nat.{◌<◌}
use native.Mathlib.Omega.{arith}
use lib.ListN.{get_or}
use Rattle.rules.proofs.Returns.{via}
use Rattle.rules.proofs.OctetRows.{admits_kind}
use Rattle.rules.proofs.Standing.{text_starts, text_goes, text_stops, text_ends}
use Rattle.contents.proofs.kind_along.Goals as goal

pub loop-i-init : goal.loop-i-init
loop-i-init c = text_starts _ _

pub loop-i-preserved : goal.loop-i-preserved
loop-i-preserved c =
    let x = get_or c.args.v.now c.loop-i.i 0 in
    let octet : x < 256 = omega (arith, c.type_inv.v c.loop-i.i) in
    let told = admits_kind _ c.requires.1 x _ (c.requires.0.row x octet) in
    text_goes _ _ _ c.loop-i.invariant c.loop-i-test.true
    (sym told ∙ via _ _ _ c.admits.ensures c.if-not-admits.false)

pub returns-then-not-admits : goal.returns-then-not-admits
returns-then-not-admits c =
    let x = get_or c.args.v.now c.loop-i.i 0 in
    let octet : x < 256 = omega (arith, c.type_inv.v c.loop-i.i) in
    let told = admits_kind _ c.requires.1 x _ (c.requires.0.row x octet) in
    text_stops _ _ _ c.loop-i.invariant c.loop-i-test.true
    (sym told ∙ via _ _ _ c.admits.ensures c.if-not-admits.true)

pub returns : goal.returns
returns c = omega (arith, text_ends _ _ _ c.loop-i.invariant (omega arith))
