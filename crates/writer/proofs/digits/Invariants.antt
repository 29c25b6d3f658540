-- `writer::digits` meets its contract. The loop's invariant: the digits of the numbers before i lie over zeros.
-- Assumes nothing.
use Rattle.std.proofs.Common.{◌≡◌, take, replicate}
use Rattle.rules.specs.Laying.{laid}
use Rattle.writer.specs.Judging.{digits_of}
use Rattle.writer.proofs.digits.Given as goal

abbrev pub invariant-loop-i : goal.invariant-loop-i
invariant-loop-i g l = l.octets ≡ laid (digits_of (take l.i l.x-items)) (replicate 10 0)
