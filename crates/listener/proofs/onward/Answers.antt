-- `listener::onward` meets its contract: each stage has its function.
-- Assumes nothing.
use Rattle.std.proofs.Common.{arith}
use Rattle.rules.proofs.ContentLaw.{sound_rules}
use Rattle.listener.proofs.Bounds.{place_small, count_small}
use Rattle.listener.proofs.Going.{one_step}
use Rattle.listener.proofs.onward.Goals as goal

pub at_kind-requires : goal.at_kind-requires
at_kind-requires c = place_small _ (sound_rules _) _ _ c.requires.0

pub at_size-requires : goal.at_size-requires
at_size-requires c = place_small _ (sound_rules _) _ _ c.requires.0

pub at_header-requires : goal.at_header-requires
at_header-requires c = (place_small _ (sound_rules _) _ _ c.requires.0, count_small _ (sound_rules _) _ _ c.requires.0)

pub by_turns-requires : goal.by_turns-requires
by_turns-requires c = (rw c.in-Header.is at c.requires.0, c.requires.1)

pub at_length-requires : goal.at_length-requires
at_length-requires c = place_small _ (sound_rules _) _ _ c.requires.0

pub along-requires : goal.along-requires
along-requires c = (rw c.in-Content.is at c.requires.0, c.requires.1)

pub returns-in-Kind : goal.returns-in-Kind
returns-in-Kind c =
    one_step _ (sound_rules _) _ _ _ _ _ c.requires.0 c.requires.1
    (omega (arith, c.shared_slice_known-1.given c.args.i))
    (rw c.in-Kind.is c.at_kind.ensures)

pub returns-in-Size : goal.returns-in-Size
returns-in-Size c =
    one_step _ (sound_rules _) _ _ _ _ _ c.requires.0 c.requires.1
    (omega (arith, c.shared_slice_known-1.given c.args.i))
    (rw c.in-Size.is c.at_size.ensures)

pub returns-then-octets-i-lt3 : goal.returns-then-octets-i-lt3
returns-then-octets-i-lt3 c =
    one_step _ (sound_rules _) _ _ _ _ _ c.requires.0 c.requires.1
    (omega (arith, c.shared_slice_known-1.given c.args.i))
    (rw c.in-Header.is c.at_header.ensures)

pub returns-else-octets-i-lt3 : goal.returns-else-octets-i-lt3
returns-else-octets-i-lt3 c = rw c.in-Header.is c.by_turns.ensures

pub returns-in-Length : goal.returns-in-Length
returns-in-Length c =
    one_step _ (sound_rules _) _ _ _ _ _ c.requires.0 c.requires.1
    (omega (arith, c.shared_slice_known-1.given c.args.i))
    (rw c.in-Length.is c.at_length.ensures)

pub returns-in-Content : goal.returns-in-Content
returns-in-Content c = rw c.in-Content.is c.along.ensures
