-- `listing::put_rows`: the lines of the rows so far stand behind what stood there.
-- Assumes nothing.
use Rattle.std.proofs.Common.{◌≡◌, ◌++◌, take, map}
use Rattle.listing.specs.Seen.{seen}
use Rattle.listing.proofs.Rows.{rows_text}
use Rattle.listing.proofs.put_rows.Given as goal

abbrev pub invariant-loop-row : goal.invariant-loop-row
invariant-loop-row l =
    l.page.items ≡ l.initial.page.items ++ rows_text l.octets (map seen (take l.row-index l.row-items))
