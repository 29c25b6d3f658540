-- `walker::walk_to`: the parameters that are left hold what the whole walk gives, and end inside the message.
-- Assumes nothing.
use Rattle.std.proofs.Common.{◌≡◌, length}
use Rattle.rules.specs.Message.{most}
use Rattle.message.specs.Walk.{founds_left}
use Rattle.walker.specs.Steps.{walk_from}
use Rattle.walker.proofs.Steps.{walked, Within}
use Rattle.walker.proofs.walk_to.Given as goal

abbrev pub invariant-loop-found : goal.invariant-loop-found
invariant-loop-found l =
    (walked l.at l.place (founds_left l.found-iterator) ≡ walk_from most l.message l.at 2)
    × Within (length l.message) (founds_left l.found-iterator)
