-- `turns::header` and `turns::contents` call each other while the room falls: a header's measure is twice its room,
-- contents' twice the room after them and one more. Assumes nothing.
use Rattle.std.proofs.Common.{◌+◌, ◌*◌}
use Rattle.turns.proofs.+contents_header.Given as goal

abbrev pub decreases-contents : goal.decreases-contents
decreases-contents l = l.room * 2 + 1

abbrev pub decreases-header : goal.decreases-header
decreases-header l = l.room * 2
