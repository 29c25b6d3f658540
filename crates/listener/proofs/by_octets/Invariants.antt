-- `listener::by_octets` meets its contract. The loop's invariant: the run stands at octet i and at an index of the
-- contents that it has come to. The measure is what is left of the run. A turn reads its octet and its row and judges
-- it; then it goes further, or stops.
-- Assumes nothing.
use Rattle.rules.specs.Table.{rules_of}
use Rattle.rules.proofs.ContentLaw.{sound_rules}
use Rattle.listener.specs.Heard.{inside_of}
use Rattle.listener.proofs.Going.{Stands}
use Rattle.listener.proofs.by_octets.Given as goal

abbrev pub invariant-loop-i : goal.invariant-loop-i
invariant-loop-i l = Stands (rules_of l.book) (sound_rules l.book) l.f l.octets (inside_of l.f l.fn.first.index l.fn.first.memory l.fn.first.spot) l.from l.i l.index l.memory l.q
