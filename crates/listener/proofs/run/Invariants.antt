-- `listener::run` meets its contract. The loop's invariant: the state is in range, and the run from here on gives
-- what the whole run gives. The measure is what is left of the run.
-- Assumes nothing.
use Rattle.std.proofs.Common.{◌≡◌, ◌-◌, ◌≤◌, T, length, drop}
use Rattle.rules.specs.Table.{rules_of}
use Rattle.rules.specs.Judge.{machine, in_range}
use Rattle.listener.specs.Heard.{run_from, run_of}
use Rattle.listener.proofs.run.Given as goal

abbrev pub invariant-loop-i : goal.invariant-loop-i
invariant-loop-i l =
    (l.i ≤ length l.octets) × T (in_range (rules_of l.book) l.cur)
    × (run_from l.i (machine (rules_of l.book)) l.cur (drop l.i l.octets) ≡ run_of (machine (rules_of l.book)) l.initial.cur l.octets)

abbrev pub decreases-loop-i : goal.decreases-loop-i
decreases-loop-i l = length l.octets - l.i
