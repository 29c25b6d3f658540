-- `fmt` of `Hex` has written the digits of the octets behind it.
use Rattle.std.proofs.Common.{take}
use Rattle.std.specs.Fmt.{HasWritten, IsPlainFormatter}
use Rattle.std.specs.List.{flat_map}
use Rattle.streams.specs.Octets.{small_hex}
use Rattle.streams.proofs.HexDisplay.fmt.Given as goal

abbrev pub invariant-loop-x : goal.invariant-loop-x
invariant-loop-x g l =
    IsPlainFormatter l.initial.f
    → HasWritten g.W.Write.write_str_gives l.initial.f (flat_map small_hex (take l.x-index l.x-items)) l.f
