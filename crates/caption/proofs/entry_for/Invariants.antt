-- `caption::entry_for` meets its contract. The loop's invariant: the search from the line that begins here finds what
-- the whole search finds. The measure is what is left of the directory. Assumes nothing.
use Prim.Native.Nat.{◌-◌}
use mathlib.Core.Path.{◌≡◌}
use lib.ListN.{length, drop}
use Rattle.caption.specs.Lines.{lines_of}
use Rattle.caption.specs.Caption.{lookup_from, lookup}
use Rattle.caption.proofs.entry_for.Given as goal

abbrev pub invariant-loop-at : goal.invariant-loop-at
invariant-loop-at l = lookup_from l.caller l.at (lines_of (drop l.at l.directory)) ≡ lookup l.caller l.directory

abbrev pub decreases-loop-at : goal.decreases-loop-at
decreases-loop-at l = length l.directory - l.at
