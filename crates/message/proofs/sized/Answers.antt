-- `message::sized` meets its contract: L is at least 3, and the verdict is where the parameters came to.
-- Assumes nothing.
use Rattle.std.proofs.Common.{◌-◌, length, take, drop, ap, ◌∙◌, refl, arith, Err}
use Rattle.rules.specs.Table.{rules_of}
use Rattle.rules.proofs.ContentLaw.{sound_rules}
use Rattle.rules.proofs.Octets.{octets_known, octets-take, octets-drop}
use Rattle.turns.proofs.Between.{near}
use Rattle.message.proofs.Opening.{kind_alone, size_spoils, sized_verdict, early_short}
use Rattle.message.proofs.sized.Goals as goal

pub returns-then-s-le1 : goal.returns-then-s-le1
returns-then-s-le1 c =
    let known = c.shared_slice_known-1 in
    ap Err c.noted.ensures
    ∙ kind_alone _ c.args.s.now c.requires.0 c.if-s-le1.true c.requires.1
    (omega (arith, known.given 0))

pub returns-then-size-lt3 : goal.returns-then-size-lt3
returns-then-size-lt3 c =
    ap Err c.noted-then-size-lt3.ensures
    ∙ size_spoils _ c.args.s.now c.if-s-le1.false c.requires.1
    (omega (arith, c.type_inv.s 0)) c.if-size-lt3.true

pub overflow_add-stop : goal.overflow_add-stop
overflow_add-stop c =
    let o = c.args.s.now in
    let q = octets_known o c.type_inv.s in
    let b = octets-take (length o - 2) (drop 2 o) (octets-drop 2 o q) in
    omega (
      arith,
      near (rules_of c.args.book) (take (length o - 2) (drop 2 o)) (sound_rules c.args.book) b 0 _ _ 0
          (omega (arith, c.type_inv.s 1)) (omega arith) _ c.through-stop.ensures,
    )

pub verdict_at-requires : goal.verdict_at-requires
verdict_at-requires c =
    let o = c.args.s.now in
    let q = octets_known o c.type_inv.s in
    early_short (rules_of c.args.book) _ _ o c.if-s-le1.false c.requires.1
    (omega (arith, c.type_inv.s 0)) c.if-size-lt3.false
    refl c.through-stop.ensures (sound_rules
    c.args.book) q

pub returns : goal.returns
returns c =
    c.verdict_at.ensures
    ∙ sized_verdict (rules_of c.args.book) _ _ c.args.s.now c.if-s-le1.false
    c.requires.1
    (omega (arith, c.type_inv.s 0)) c.if-size-lt3.false
    refl c.through-stop.ensures
