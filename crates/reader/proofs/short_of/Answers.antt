-- `reader::short_of` meets its contract: 9 where the texts need more octets than there are. A message of 258 octets
-- has no more of text, so their number fits the place.
-- Assumes nothing.
use Rattle.std.proofs.Common.{Err}
use mathlib.Core.Path.{◌∙◌, ap}
use native.Mathlib.Omega.{arith}
use Rattle.rules.specs.Table.{rules_of}
use Rattle.reader.proofs.Turns.{size_within}
use Rattle.reader.proofs.Area.{room_enough, room_short}
use Rattle.reader.proofs.short_of.Goals as goal

pub overflow_cast-size : goal.overflow_cast-size
overflow_cast-size c =
    let within = size_within (rules_of c.args.book) c.args.octets.now in
    omega (arith, c.text_size-size.ensures, c.requires)

pub returns-then-room-size : goal.returns-then-room-size
returns-then-room-size c =
    ap Err c.noted.ensures
    ∙ room_short _ c.args.octets.now _ _ c.text_size-size.ensures c.if-room-size.true

pub returns-else-room-size : goal.returns-else-room-size
returns-else-room-size c = room_enough _ c.args.octets.now _ (omega (arith, c.text_size-size.ensures, c.if-room-size.false))
