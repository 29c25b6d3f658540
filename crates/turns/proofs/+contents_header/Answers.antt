-- `turns::header` and `turns::contents` meet their contracts, which call each other while the room falls.
-- Assumes nothing.
use Rattle.std.proofs.Common.{arith}
use Rattle.turns.proofs.Ways.{as_word, some_contents, held_wrong, held_passed, head_fits_lem, headed, in_room}
use Rattle.rules.specs.Table.{rules_of}
use Rattle.turns.proofs.+contents_header.Goals as goal

pub contents-returns-then-good-length : goal.contents-returns-then-good-length
contents-returns-then-good-length t c =
    as_word _ _ _ _ _ _ _ _ c.word.ensures
    (held_wrong _ _ _ _ _ _ _ _ c.requires.0 _ c.if-s-end.false c.first_wrong-good.ensures c.if-good-length.true)

pub contents-header-requires : goal.contents-header-requires
contents-header-requires t c =
    omega (
      arith,
      c.decreases,
      c.requires.0.near,
      c.requires.1,
      some_contents _ _ _ _ _ _ c.args.sum c.args.count c.requires.0,
    )

pub contents-returns : goal.contents-returns
contents-returns t c =
    held_passed _ _ _ _ _ _ _ _ c.requires.0 _ c.if-s-end.false c.first_wrong-good.ensures c.if-good-length.false _ _
    c.sum_on.ensures c.header.ensures

pub header-overflow_sub-room : goal.header-overflow_sub-room
header-overflow_sub-room t c =
    let a = c.args in
    omega (
      arith,
      head_fits_lem (rules_of a.book) a.m.now.now a.at a.room _ _ c.class_of-class.ensures c.length_fits.ensures
          c.if-length_fits.true,
    )

pub header-overflow_sub-room-then-length_fits : goal.header-overflow_sub-room-then-length_fits
header-overflow_sub-room-then-length_fits t c =
    let a = c.args in
    omega (
      arith,
      head_fits_lem (rules_of a.book) a.m.now.now a.at a.room _ _ c.class_of-class.ensures c.length_fits.ensures
          c.if-length_fits.true,
    )

pub header-contents-requires : goal.header-contents-requires
header-contents-requires t c =
    let a = c.args in (
      omega (
        arith,
        c.decreases,
        head_fits_lem (rules_of a.book) a.m.now.now a.at a.room _ _ c.class_of-class.ensures c.length_fits.ensures
            c.if-length_fits.true,
      ),
      (
        headed _ _ _ _ _ _ c.class_of-class.ensures c.length_fits.ensures c.if-length_fits.true c.requires.0
            c.if-s-at.false,
        c.requires.1,
      ),
    )

pub header-returns-then-length_fits : goal.header-returns-then-length_fits
header-returns-then-length_fits t c =
    in_room _ _ _ _ _ _ c.class_of-class.ensures c.length_fits.ensures c.if-length_fits.true _ _ _
    c.contents.ensures
