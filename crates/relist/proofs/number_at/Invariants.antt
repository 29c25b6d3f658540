-- `relist::number_at` meets its contract. The loop's invariant: what the digits from i on say behind the number so far
-- is what all of them say, as far as two octets hold it. The measure is what is left.
-- Assumes nothing.
use Rattle.std.proofs.Common.{◌≡◌, ◌%◌, ◌<◌, drop}
use Rattle.listing.specs.Numerals.{number_from}
use Rattle.relist.proofs.number_at.Given as goal

abbrev pub invariant-loop-i : goal.invariant-loop-i
invariant-loop-i l = (l.number < 65536) × (number_from l.number (drop l.i l.text) % 65536 ≡ number_from 0 (drop l.from l.text) % 65536)
