-- `firmware::copy` meets its contract. The loop's invariant: so many octets are those copied, and the others as they
-- were. Assumes nothing.
use Rattle.std.proofs.Common.{◌≡◌, length, take, drop}
use Rattle.firmware.proofs.drafts.copy.Given as goal

abbrev pub invariant-loop-i : goal.invariant-loop-i
invariant-loop-i l = record {
  front : take l.i l.to ≡ take l.i l.from;
  behind : drop l.i l.to ≡ drop l.i l.initial.to;
  long : length l.to ≡ length l.initial.to;
}
