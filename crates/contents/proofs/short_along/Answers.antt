-- `contents::short_along` meets its contract. Behind the fourteenth any octet may stand.
-- Assumes nothing.
use mathlib.Core.Path.{◌∙◌}
use Prim.Native.Nat.{◌<◌}
use native.Mathlib.Omega.{arith}
use lib.ListN.{length, drop, get_or, length-drop}
use Rattle.rules.specs.ContentJudge.{judge_of}
use Rattle.rules.proofs.Octets.{octets_known, octets-drop}
use Rattle.rules.proofs.Returns.{via}
use Rattle.rules.proofs.Asked.{mixed_ok, short_as, short_kept, short_mixed, short_past}
use Rattle.rules.proofs.Standing.{stood_more, stood_wrong, stood_all, any_stand}
use Rattle.contents.proofs.short_along.Goals as goal

pub returns-then-n-i : goal.returns-then-n-i
returns-then-n-i c =
    let all = stood_all _ _ _ _ _ c.if-n-i.true c.loop-index.invariant.1 in
    omega (arith, c.loop-index.invariant.0, c.if-n-i.true, all)

pub loop-index-preserved : goal.loop-index-preserved
loop-index-preserved c =
    let v = c.args.v.now in
    let x = get_or v c.loop-index.index 0 in
    let octet : x < 256 = omega (arith, c.type_inv.v c.loop-index.index) in
    let s = c.requires.1 in (
      omega (arith, c.if-n-i.false),
      stood_more _ _ _ _ _ (omega (arith, c.if-n-i.false)) _
          (via _ _ _ (c.mixed_ok.ensures ∙ mixed_ok _ _ _ _ x (c.requires.0.row x octet) _ (short_mixed _ s)
          ∙ short_as _ s (length v) _ _ x) c.if-not-mixed_ok.false)
          (c.remember-memory.ensures ∙ short_kept _ s (length v) _ _ x) c.loop-index.invariant.1,
    )

pub returns-then-not-mixed_ok : goal.returns-then-not-mixed_ok
returns-then-not-mixed_ok c =
    let v = c.args.v.now in
    let x = get_or v c.loop-index.index 0 in
    let octet : x < 256 = omega (arith, c.type_inv.v c.loop-index.index) in
    let s = c.requires.1 in
    stood_wrong _ _ _ _ _ (omega (arith, c.if-n-i.false))
    (via _ _ _ (c.mixed_ok.ensures ∙ mixed_ok _ _ _ _ x (c.requires.0.row x octet) _ (short_mixed _ s)
    ∙ short_as _ s (length v) _ _ x) c.if-not-mixed_ok.true) c.loop-index.invariant.1

pub returns : goal.returns
returns c =
    let v = c.args.v.now in
    let i = c.loop-index.index in
    let rest = any_stand (judge_of c.args.c) (length v) 14
    (λ i m x h l. short_past _ c.requires.1 _ i m x h l) i c.loop-index.memory (drop i v) c.loop-index-test.false
    (octets-drop i v (octets_known v c.type_inv.v)) in
    omega (arith, rest, c.loop-index.invariant.0, c.loop-index.invariant.1, length-drop i v)
