-- `listener::by_octets` meets its contract. The loop's invariant: the run stands at octet i and at an index of the
-- contents that it has come to. The measure is what is left of the run. A turn reads its octet and its row and judges
-- it; then it goes further, or stops.
-- Assumes nothing.
use Rattle.std.proofs.Common.{◌≡◌, ◌<◌, refl, ◌∙◌, arith}
use lib.ListN as list
use Rattle.rules.specs.Judge.{stands_in}
use Rattle.rules.proofs.ContentLaw.{sound_rules}
use Rattle.rules.proofs.Asked.{asked_ok}
use Rattle.rules.proofs.Returns.{via}
use Rattle.listener.proofs.Bounds.{place_small, index_small}
use Rattle.listener.proofs.Going.{stands_first, stands_ended, stands_over, stands_more, stands_spoilt}
use Rattle.listener.proofs.by_octets.Goals as goal

pub loop-i-init : goal.loop-i-init
loop-i-init c = stands_first _ (sound_rules _) _ _ _ _ _ _ _ refl c.requires.0 c.requires.1

pub row_in-row-requires : goal.row_in-row-requires
row_in-row-requires c = c.requires.2

pub further-next-requires : goal.further-next-requires
further-next-requires c =
    let turn = c.loop-i in (
      index_small _ (sound_rules _) _ _ _ _ _ _ turn.invariant.is_in_range (omega arith),
      place_small _ (sound_rules _) _ _ turn.invariant.is_in_range,
    )

pub returns-then-index-f : goal.returns-then-index-f
returns-then-index-f c =
    let turn = c.loop-i in
    let x = list.get_or c.args.octets.now turn.i 0 in
    let octet : x < 256 = omega (arith, c.type_inv.octets turn.i) in
    stands_over _ (sound_rules _) _ _ _ _ _ _ _ _ turn.invariant c.loop-i-test.true
    octet
    (via _ _ _ (c.content_ok.ensures ∙ asked_ok _ _ _ _ _ x c.row_in-row.ensures)
    c.if-not-content_ok.false)
    _ c.further-next.ensures c.if-index-f.true

pub loop-i-preserved : goal.loop-i-preserved
loop-i-preserved c =
    let turn = c.loop-i in
    let x = list.get_or c.args.octets.now turn.i 0 in
    let octet : x < 256 = omega (arith, c.type_inv.octets turn.i) in
    stands_more _ (sound_rules _) _ _ _ _ _ _ _ _ turn.invariant c.loop-i-test.true
    octet
    (via _ _ _ (c.content_ok.ensures ∙ asked_ok _ _ _ _ _ x c.row_in-row.ensures)
    c.if-not-content_ok.false)
    _ c.further-next.ensures c.if-index-f.false

pub declined-requires : goal.declined-requires
unfolding stands_in
declined-requires c = rw c.content_at-here.ensures refl

pub returns-then-not-content_ok : goal.returns-then-not-content_ok
returns-then-not-content_ok c =
    let turn = c.loop-i in
    let x = list.get_or c.args.octets.now turn.i 0 in
    let octet : x < 256 = omega (arith, c.type_inv.octets turn.i) in
    stands_spoilt _ (sound_rules _) _ _ _ _ _ _ _ _ turn.invariant c.loop-i-test.true
    octet
    (via _ _ _ (c.content_ok.ensures ∙ asked_ok _ _ _ _ _ x c.row_in-row.ensures)
    c.if-not-content_ok.true)
    _ c.content_at-here.ensures _ c.declined.ensures

pub returns : goal.returns
returns c =
    let turn = c.loop-i in
    let end : list.length c.args.octets.now ≡ turn.i = omega (arith, c.requires.1) in
    rw end
    (stands_ended _ (sound_rules _) _ _ _ _ _ _ _ _ turn.invariant c.loop-i-test.false
    c.requires.1 _ c.content_at.ensures)
